-- Laws of markets by counts, and of their links.
use Rattle.std.specs.Prelude.{◌≡◌, ℕ, ◌<◌, ℤ, pos, neg_ℤ, ◌+ℤ◌, ◌≤ℤ◌, ◌<ℤ◌, List, [], length, slice_get, Some, suc}
use Rattle.tn_base.specs.Walks.{IsCycle, KeepsArcs}
use Rattle.tn_links.specs.declared.link.Link.{Link}
use Rattle.tn_links.specs.Flows.{IsKeptFlow, total_gain}
use Rattle.tn_links.specs.Links.{ArePlain}
use Rattle.tn_links.specs.Lots.{link_arc, pushed}
use Rattle.tn_counts.specs.Counts.{AreCounts, CountFirm, HaveFirms, IsBestCount, IsEfficientByCounts, IsEquilibriumByCounts, count_surplus, count_utility}
use Rattle.tn_counts.specs.Laminar.{constants, firm_of, firms_of}
use Rattle.tn_counts.specs.Markets.{ArePins, IsWideMarket}
use Rattle.tn_counts.specs.Tree.{AreLinksOf, bought_at, counts_at, null_node, price_by, sold_at}
use Rattle.tn_counts.specs.declared.market.Pin.{Pin}
use Rattle.tn_counts.specs.declared.market.UnitMarket.{UnitMarket}
use Rattle.tn_counts.specs.declared.trade.UnitTrade.{UnitTrade}

-- the counts of an equilibrium, at any scale of at least 1, have the greatest surplus
abbrev pub EquilibriaByCountsAreEfficient : Type 0
EquilibriaByCountsAreEfficient = (firms : List CountFirm) (trades : List UnitTrade) (scale : ℤ) (counts : ℕ → ℕ)
    (prices : ℕ → ℤ)
    → HaveFirms (length firms) trades → pos 1 ≤ℤ scale → IsEquilibriumByCounts firms trades scale counts prices
    → IsEfficientByCounts firms trades counts

-- no two links of a market join the same two nodes, and each gains by falling steps
abbrev pub LinksArePlain : Type 0
LinksArePlain = (market : UnitMarket) (pins : List Pin) (links : List Link) → IsWideMarket market
    → ArePins (length market.trades.items) pins → AreLinksOf market pins links → ArePlain (suc (null_node market)) links

-- the counts of each firm are best at the prices, and these are given ones where trades are pinned
pub record ArePrices (market : UnitMarket) (pins : List Pin) (levels : List ℕ) (prices : ℕ → ℤ) : Type 0 where
  pub best : (f : ℕ) → f < market.firms → (value : ℤ) × IsBestCount market.trades.items
      (count_utility market.trades.items (pos 1) prices f (firm_of market f)) (counts_at market levels f) value
  pub given : (k : ℕ) (pin : Pin) → slice_get pins k ≡ Some pin → prices pin.trade ≡ pin.price

-- labels that keep the graph of a kept flow with lots of one unit are prices
abbrev pub LabelsArePrices : Type 0
LabelsArePrices = (market : UnitMarket) (pins : List Pin) (links : List Link) (levels : List ℕ) (label : ℕ → ℤ)
    → IsWideMarket market → ArePins (length market.trades.items) pins → AreLinksOf market pins links
    → IsKeptFlow links levels → KeepsArcs (link_arc links levels 1) label
    → ArePrices market pins levels (price_by market label)

-- where nothing is pinned, as many units of each trade are bought as sold, and the counts have as their surplus what the
-- flow gains and the constants of all sets
pub record AreItsCounts (market : UnitMarket) (links : List Link) (levels : List ℕ) : Type 0 where
  pub within : AreCounts market.trades.items (sold_at market levels)
  pub same : (t : ℕ) → t < length market.trades.items → bought_at market levels t ≡ sold_at market levels t
  pub surplus : count_surplus (firms_of market) (sold_at market levels)
      ≡ Some (total_gain links levels +ℤ constants market.sets.items)

abbrev pub FlowsAreCounts : Type 0
FlowsAreCounts = (market : UnitMarket) (links : List Link) (levels : List ℕ) → IsWideMarket market
    → AreLinksOf market [] links → IsKeptFlow links levels → AreItsCounts market links levels

-- then labels that keep the graph make them an equilibrium
abbrev pub LabelsMakeEquilibria : Type 0
LabelsMakeEquilibria = (market : UnitMarket) (links : List Link) (levels : List ℕ) (label : ℕ → ℤ) → IsWideMarket market
    → AreLinksOf market [] links → IsKeptFlow links levels → KeepsArcs (link_arc links levels 1) label
    → IsEquilibriumByCounts (firms_of market) market.trades.items (pos 1) (sold_at market levels) (price_by market label)

-- a negative cycle of the graph with lots of so many units
pub record IsGain (links : List Link) (levels : List ℕ) (lot first : ℕ) (rest : List ℕ) (cost : ℤ) : Type 0 where
  pub negative : cost <ℤ pos 0
  pub cycle : IsCycle (link_arc links levels lot) first rest cost

-- other counts are possible, and have more surplus by so much
pub record HaveMore (market : UnitMarket) (before after : ℕ → ℕ) (more : ℤ) : Type 0 where
  pub within : AreCounts market.trades.items after
  pub surplus : ℤ
  pub is : count_surplus (firms_of market) before ≡ Some surplus
  pub gained : count_surplus (firms_of market) after ≡ Some (surplus +ℤ more)

-- a lot round a negative cycle gains what the cycle costs
abbrev pub CyclesGainByCounts : Type 0
CyclesGainByCounts = (market : UnitMarket) (links : List Link) (levels : List ℕ) (lot first : ℕ) (rest : List ℕ) (cost : ℤ)
    → IsWideMarket market → AreLinksOf market [] links → IsKeptFlow links levels → IsGain links levels lot first rest cost
    → HaveMore market (sold_at market levels) (sold_at market (pushed links lot levels first rest first)) (neg_ℤ cost)

-- so where there is one, no prices make the counts an equilibrium, at any scale of at least 1
abbrev pub NegativeCyclesBarEquilibria : Type 0
NegativeCyclesBarEquilibria = (market : UnitMarket) (links : List Link) (levels : List ℕ) (lot first : ℕ) (rest : List ℕ)
    (cost : ℤ) → IsWideMarket market → AreLinksOf market [] links → IsKeptFlow links levels
    → IsGain links levels lot first rest cost
    → (scale : ℤ) (prices : ℕ → ℤ) → pos 1 ≤ℤ scale
    → IsEquilibriumByCounts (firms_of market) market.trades.items scale (sold_at market levels) prices → ⊥
