-- The prices that a trade has over all equilibria by counts, whatever the counts in them.
use Rattle.std.specs.Prelude.{◌≡◌, ℕ, suc, ◌<◌, ℤ, pos, neg_ℤ, ◌-ℤ◌, ◌*ℤ◌, ◌==◌, if◌then◌else◌, ◌≤ℤ◌, ◌<ℤ◌, List, [], length, Option, Some, None, option_map}
use Rattle.tn_base.specs.Walks.{KeepsArcs}
use Rattle.tn_cycle.specs.Answers.{LeadsLeast}
use Rattle.tn_links.specs.declared.link.Link.{Link}
use Rattle.tn_links.specs.Flows.{IsKeptFlow}
use Rattle.tn_links.specs.Lots.{link_arc}
use Rattle.tn_links.specs.Totals.{total}
use Rattle.tn_counts.specs.Counts.{AreCounts, CountFirm, IsEquilibriumByCounts, count_surplus, trade_at}
use Rattle.tn_counts.specs.Laminar.{firm_of, firms_of}
use Rattle.tn_counts.specs.Markets.{IsWideMarket}
use Rattle.tn_counts.specs.Tree.{AreLinksOf, null_node, sold_at, trade_node}
use Rattle.tn_counts.specs.declared.market.UnitMarket.{UnitMarket}
use Rattle.tn_counts.specs.declared.trade.UnitTrade.{UnitTrade}

-- trade t has this price in some equilibrium by counts, at whole prices
pub record IsPriceByCounts (firms : List CountFirm) (trades : List UnitTrade) (t : ℕ) (price : ℤ) : Type 0 where
  pub counts : ℕ → ℕ
  pub prices : ℕ → ℤ
  pub equilibrium : IsEquilibriumByCounts firms trades (pos 1) counts prices
  pub is : prices t ≡ price

-- no equilibrium, over any denominator, has a price of trade t above this one
abbrev pub NoneIsAbove : List CountFirm → List UnitTrade → ℕ → ℤ → Type 0
NoneIsAbove firms trades t high = (scale : ℤ) (counts : ℕ → ℕ) (prices : ℕ → ℤ) → pos 1 ≤ℤ scale
    → IsEquilibriumByCounts firms trades scale counts prices → prices t ≤ℤ (scale *ℤ high)

-- none has one below it
abbrev pub NoneIsBelow : List CountFirm → List UnitTrade → ℕ → ℤ → Type 0
NoneIsBelow firms trades t low = (scale : ℤ) (counts : ℕ → ℕ) (prices : ℕ → ℤ) → pos 1 ≤ℤ scale
    → IsEquilibriumByCounts firms trades scale counts prices → (scale *ℤ low) ≤ℤ prices t

-- the highest price of trade t, none where for each bound some price is above it
abbrev pub IsHighestByCounts : List CountFirm → List UnitTrade → ℕ → Option ℤ → Type 0
IsHighestByCounts firms trades t (Some high) = IsPriceByCounts firms trades t high × NoneIsAbove firms trades t high
IsHighestByCounts firms trades t None = (bound : ℤ) → (price : ℤ) × IsPriceByCounts firms trades t price
    × (bound <ℤ price)

-- the lowest price, none where for each bound some price is below it
abbrev pub IsLowestByCounts : List CountFirm → List UnitTrade → ℕ → Option ℤ → Type 0
IsLowestByCounts firms trades t (Some low) = IsPriceByCounts firms trades t low × NoneIsBelow firms trades t low
IsLowestByCounts firms trades t None = (bound : ℤ) → (price : ℤ) × IsPriceByCounts firms trades t price
    × (price <ℤ bound)

-- ---- what firms lose by a walk

-- the counts of firm f, where the seller of a trade may sell other units than its buyer buys
abbrev pub apart_counts : List UnitTrade → (ℕ → ℕ) → (ℕ → ℕ) → ℕ → ℕ → ℕ
apart_counts trades sold bought f t = if f == (trade_at trades t).seller then sold t else bought t

-- at these units sold and bought the firms' worths sum to so much less than the surplus of counts
pub record LoseTogether (market : UnitMarket) (counts sold bought : ℕ → ℕ) (cost : ℤ) : Type 0 where
  pub sold_within : AreCounts market.trades.items sold
  pub bought_within : AreCounts market.trades.items bought
  pub surplus : ℤ
  pub is : count_surplus (firms_of market) counts ≡ Some surplus
  pub worths : ℕ → ℤ
  pub each : (f : ℕ) → f < market.firms
      → (firm_of market f).worth (apart_counts market.trades.items sold bought f) ≡ Some (worths f)
  pub sum : total worths market.firms ≡ surplus -ℤ cost

-- ---- what least walks say of prices

-- a kept flow over the links of a market of which nothing is pinned, whose graph with lots of one unit labels keep
pub record IsSettled (market : UnitMarket) (links : List Link) (levels : List ℕ) (label : ℕ → ℤ) : Type 0 where
  pub market_is : IsWideMarket market
  pub of : AreLinksOf market [] links
  pub kept : IsKeptFlow links levels
  pub keeps : KeepsArcs (link_arc links levels 1) label

-- least walks of that graph from null to each node, with their costs
abbrev pub LeadFromNull : UnitMarket → List Link → List ℕ → (ℕ → List ℕ) → (ℕ → Option ℤ) → Type 0
LeadFromNull market links levels walks costs = (v : ℕ) → v < suc (null_node market)
    → LeadsLeast (link_arc links levels 1) (null_node market) v (walks v) (costs v)

-- and those from each node to null
abbrev pub LeadToNull : UnitMarket → List Link → List ℕ → (ℕ → List ℕ) → (ℕ → Option ℤ) → Type 0
LeadToNull market links levels walks costs = (v : ℕ) → v < suc (null_node market)
    → LeadsLeast (link_arc links levels 1) v (null_node market) (walks v) (costs v)

pub record PricesAreLeastWalks : Type 0 where
  -- a trade's highest price is the least cost of a walk from null to its node
  pub highest : (market : UnitMarket) (links : List Link) (levels : List ℕ) (label : ℕ → ℤ) (walks : ℕ → List ℕ)
      (costs : ℕ → Option ℤ) → IsSettled market links levels label → LeadFromNull market links levels walks costs
      → (t : ℕ) → t < length market.trades.items
      → IsHighestByCounts (firms_of market) market.trades.items t (costs (trade_node market t))
  -- its lowest price is the negative of the least cost of a walk from its node to null
  pub lowest : (market : UnitMarket) (links : List Link) (levels : List ℕ) (label : ℕ → ℤ) (walks : ℕ → List ℕ)
      (costs : ℕ → Option ℤ) → IsSettled market links levels label → LeadToNull market links levels walks costs
      → (t : ℕ) → t < length market.trades.items
      → IsLowestByCounts (firms_of market) market.trades.items t (option_map neg_ℤ (costs (trade_node market t)))
  -- the highest prices, where each trade has one, make an equilibrium together
  pub highs : (market : UnitMarket) (links : List Link) (levels : List ℕ) (label : ℕ → ℤ) (walks : ℕ → List ℕ)
      (costs : ℕ → Option ℤ) → IsSettled market links levels label → LeadFromNull market links levels walks costs
      → (high : ℕ → ℤ)
      → ((t : ℕ) → t < length market.trades.items → costs (trade_node market t) ≡ Some (high t))
      → IsEquilibriumByCounts (firms_of market) market.trades.items (pos 1) (sold_at market levels) high
  -- and so do the lowest ones
  pub lows : (market : UnitMarket) (links : List Link) (levels : List ℕ) (label : ℕ → ℤ) (walks : ℕ → List ℕ)
      (costs : ℕ → Option ℤ) → IsSettled market links levels label → LeadToNull market links levels walks costs
      → (low : ℕ → ℤ)
      → ((t : ℕ) → t < length market.trades.items → costs (trade_node market t) ≡ Some (neg_ℤ (low t)))
      → IsEquilibriumByCounts (firms_of market) market.trades.items (pos 1) (sold_at market levels) low
