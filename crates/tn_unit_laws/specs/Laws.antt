-- Laws of the unit network, each as one statement over all firms and trades.
use Rattle.std.specs.Prelude.{◌≡◌, ◌≢◌, ℕ, suc, ◌<◌, true, false, ℤ, pos, neg_ℤ, ◌-ℤ◌, ◌*ℤ◌, ◌≤ℤ◌, ◌<ℤ◌, ◌↔◌, ◌==◌, List, [], ◌++◌, length, slice_get, Some}
use Rattle.tn_base.specs.Exchange.{MeetsExchange}
use Rattle.tn_base.specs.Sets.{has}
use Rattle.tn_links.specs.declared.link.Link.{Link}
use Rattle.tn_links.specs.Flows.{IsKeptFlow}
use Rattle.tn_links.specs.Totals.{total}
use Rattle.tn_model.specs.Choices.{Blocks, IsFeasible, IsIndividuallyRational, IsStable, contracts_of}
use Rattle.tn_model.specs.Network.{IsNetwork}
use Rattle.tn_model.specs.declared.contract.Contract.{Contract}
use Rattle.tn_market.specs.Equilibrium.{IsEfficient, IsEquilibrium, surplus_of}
use Rattle.tn_market.specs.Signed.{Completes}
use Rattle.tn_network_laws.specs.Laws.{MeetExchange}
use Rattle.tn_counts.specs.Counts.{AreCounts, CountFirm, HaveFirms, IsEfficientByCounts, IsEquilibriumByCounts, count_surplus}
use Rattle.tn_counts.specs.Laminar.{firms_of}
use Rattle.tn_counts.specs.Laws.{IsGain}
use Rattle.tn_counts.specs.Markets.{IsUnitMarket}
use Rattle.tn_counts.specs.Outcomes.{AreUnitContracts, BlocksByCounts, CompletesByCounts, IsRationalByCounts, IsStableByCounts, contract_at}
use Rattle.tn_counts.specs.Ranges.{apart_counts}
use Rattle.tn_counts.specs.Tree.{AreLinksOf, sold_at}
use Rattle.tn_counts.specs.declared.contract.UnitContract.{UnitContract}
use Rattle.tn_counts.specs.declared.market.UnitMarket.{UnitMarket}
use Rattle.tn_counts.specs.declared.trade.UnitTrade.{UnitTrade}
use Rattle.tn_unit_laws.specs.Exchange.{ExchangesByCounts}
use Rattle.tn_unit_laws.specs.Outcomes.{CanHaveSome, outcome_of, signed_twins, single_offers, split_of, split_price, unit_contracts, unit_offers}
use Rattle.tn_unit_laws.specs.Units.{count_below, DependsOnOwn, HaveTwoEnds, HasCounts, first_units, price_of_unit, trade_of, unit_count, twins_before, unit_firm, unit_firms, unit_trades, units_on}

-- firms and trades that fit together by counts make a network of unit firms and unit trades
abbrev pub UnitsMakeNetworks : Type 0
UnitsMakeNetworks = (firms : List CountFirm) (trades : List UnitTrade) → HaveFirms (length firms) trades
    → HaveTwoEnds trades → IsNetwork (unit_firms trades firms) (unit_trades trades)

-- firms and trades fit together by counts: the two ends of each trade are two firms, and a firm's worth is one of the
-- units of its own trades
pub record FitByCounts (firms : List CountFirm) (trades : List UnitTrade) : Type 0 where
  pub ends : HaveFirms (length firms) trades
  pub apart : HaveTwoEnds trades
  pub own : (f : ℕ) (firm : CountFirm) → slice_get firms f ≡ Some firm → DependsOnOwn trades f firm

-- the sets of unit trades have the counts within the units, and no others
pub record CountsAreOfSets : Type 0 where
  pub first : (trades : List UnitTrade) (counts : ℕ → ℕ) → AreCounts trades counts
      → HasCounts trades (first_units trades counts) counts
  pub within : (trades : List UnitTrade) (on : ℕ) → AreCounts trades (units_on trades on)

-- at one price for the twins of each trade, counts are an equilibrium exactly where the first so many twins of each
-- trade are one, and so any set with these counts
pub record EquilibriaByCountsAreEquilibria : Type 0 where
  pub first : (firms : List CountFirm) (trades : List UnitTrade) (scale : ℤ) (counts : ℕ → ℕ) (prices : ℕ → ℤ)
      → FitByCounts firms trades → AreCounts trades counts
      → IsEquilibriumByCounts firms trades scale counts prices
      ↔ IsEquilibrium (unit_firms trades firms) (unit_trades trades) scale (first_units trades counts)
      (price_of_unit trades prices)
  pub any : (firms : List CountFirm) (trades : List UnitTrade) (scale : ℤ) (counts : ℕ → ℕ) (prices : ℕ → ℤ) (on : ℕ)
      → FitByCounts firms trades → HasCounts trades on counts
      → IsEquilibriumByCounts firms trades scale counts prices
      ↔ IsEquilibrium (unit_firms trades firms) (unit_trades trades) scale on (price_of_unit trades prices)

-- the surplus of a set of unit trades is that of its counts, and the set is efficient exactly where its counts are
pub record EfficientByCounts : Type 0 where
  pub surplus : (firms : List CountFirm) (trades : List UnitTrade) (on : ℕ) → FitByCounts firms trades
      → surplus_of (unit_firms trades firms) (unit_trades trades) on ≡ count_surplus firms (units_on trades on)
  pub efficient : (firms : List CountFirm) (trades : List UnitTrade) (on : ℕ) → FitByCounts firms trades
      → IsEfficientByCounts firms trades (units_on trades on)
      ↔ IsEfficient (unit_firms trades firms) (unit_trades trades) on

-- the firms of a market within the limits fit together by counts
abbrev pub MarketsFitByCounts : Type 0
MarketsFitByCounts = (market : UnitMarket) → IsUnitMarket market → FitByCounts (firms_of market) market.trades.items

-- the first so many twins of each trade are an equilibrium of the unit network at one price for twins, no set of its
-- trades has more surplus, and no contracts, over any denominator, block its outcome; and no offers by counts block the
-- outcome of the counts
pub record AreStableUnits (firms : List CountFirm) (trades : List UnitTrade) (scale : ℤ) (counts : ℕ → ℕ)
    (prices : ℕ → ℤ) : Type 0 where
  pub equilibrium : IsEquilibrium (unit_firms trades firms) (unit_trades trades) scale (first_units trades counts)
      (price_of_unit trades prices)
  pub efficient : IsEfficient (unit_firms trades firms) (unit_trades trades) (first_units trades counts)
  pub stable : IsStable (unit_firms trades firms) (unit_trades trades) scale
      (contracts_of (first_units trades counts) (price_of_unit trades prices) (length (unit_trades trades)))
  pub by_counts : IsStableByCounts firms trades scale (outcome_of trades counts prices)

-- an equilibrium by counts, at any scale of at least 1, is one of the unit network, efficient and stable there
abbrev pub EquilibriaByCountsAreStable : Type 0
EquilibriaByCountsAreStable = (firms : List CountFirm) (trades : List UnitTrade) (scale : ℤ) (counts : ℕ → ℕ)
    (prices : ℕ → ℤ) → FitByCounts firms trades → pos 1 ≤ℤ scale
    → IsEquilibriumByCounts firms trades scale counts prices → AreStableUnits firms trades scale counts prices

-- counts have more surplus than a set of unit trades
pub record HaveMoreSurplus (firms : List CountFirm) (trades : List UnitTrade) (on : ℕ) (counts : ℕ → ℕ) : Type 0 where
  pub within : AreCounts trades counts
  pub less : ℤ
  pub less_is : count_surplus firms (units_on trades on) ≡ Some less
  pub more : ℤ
  pub more_is : count_surplus firms counts ≡ Some more
  pub above : less <ℤ more

-- then no prices make the set an equilibrium of the unit network, the same for twins or not, at any scale of at least 1
abbrev pub MoreSurplusBarsUnitPrices : Type 0
MoreSurplusBarsUnitPrices = (firms : List CountFirm) (trades : List UnitTrade) (on : ℕ) (counts : ℕ → ℕ)
    → FitByCounts firms trades → HaveMoreSurplus firms trades on counts
    → (scale : ℤ) (prices : ℕ → ℤ) → pos 1 ≤ℤ scale
    → IsEquilibrium (unit_firms trades firms) (unit_trades trades) scale on prices → ⊥

-- so where the graph of a flow has a negative cycle, no prices of the unit network, the same for twins or not, make a
-- set with the flow's counts an equilibrium
abbrev pub NegativeCyclesBarUnitPrices : Type 0
NegativeCyclesBarUnitPrices = (market : UnitMarket) (links : List Link) (levels : List ℕ) (lot first : ℕ) (rest : List ℕ)
    (cost : ℤ) → IsUnitMarket market → AreLinksOf market [] links → IsKeptFlow links levels
    → IsGain links levels lot first rest cost
    → (on : ℕ) → HasCounts market.trades.items on (sold_at market levels)
    → (scale : ℤ) (prices : ℕ → ℤ) → pos 1 ≤ℤ scale
    → IsEquilibrium (unit_firms market.trades.items (firms_of market)) (unit_trades market.trades.items) scale on prices
    → ⊥

-- of two twins in an equilibrium of the unit network one is on and one is off
pub record AreTwinsApart (trades : List UnitTrade) (on a b : ℕ) : Type 0 where
  pub first : a < unit_count trades
  pub second : b < unit_count trades
  pub twins : trade_of trades a ≡ trade_of trades b
  pub is_on : has on a ≡ true
  pub is_off : has on b ≡ false

-- then their prices are the same
abbrev pub TwinsCostTheSame : Type 0
TwinsCostTheSame = (firms : List CountFirm) (trades : List UnitTrade) (scale : ℤ) (on a b : ℕ) (prices : ℕ → ℤ)
    → FitByCounts firms trades
    → IsEquilibrium (unit_firms trades firms) (unit_trades trades) scale on prices
    → AreTwinsApart trades on a b → prices a ≡ prices b

-- where each firm sells and buys so many units, their worths sum to so much less than the surplus of counts
pub record LoseApart (firms : List CountFirm) (trades : List UnitTrade) (counts sold bought : ℕ → ℕ) (cost : ℤ) : Type 0
  where
    pub sold_within : AreCounts trades sold
    pub bought_within : AreCounts trades bought
    pub surplus : ℤ
    pub is : count_surplus firms counts ≡ Some surplus
    pub worths : ℕ → ℤ
    pub each : (f : ℕ) (firm : CountFirm) → slice_get firms f ≡ Some firm
        → firm.worth (apart_counts trades sold bought f) ≡ Some (worths f)
    pub sum : total worths (length firms) ≡ surplus -ℤ cost

-- of trade t one unit more in the first counts than in the second, and as many of each other trade
pub record HasOneMore (trades : List UnitTrade) (t : ℕ) (more fewer : ℕ → ℕ) : Type 0 where
  pub here : more t ≡ suc (fewer t)
  pub others : (k : ℕ) → k < length trades → k ≢ t → more k ≡ fewer k

-- what firms lose together, where one unit of a trade is sold that isn't bought, bounds the prices of all its twins
-- from above, in every equilibrium of the unit network, the same for twins or not; where one is bought that isn't sold,
-- from below
pub record LossesBoundUnitPrices : Type 0 where
  pub above : (firms : List CountFirm) (trades : List UnitTrade) (counts sold bought : ℕ → ℕ) (cost : ℤ) (u : ℕ)
      → FitByCounts firms trades → IsEfficientByCounts firms trades counts
      → LoseApart firms trades counts sold bought cost → u < unit_count trades
      → HasOneMore trades (trade_of trades u) sold bought
      → (scale : ℤ) (on : ℕ) (prices : ℕ → ℤ) → pos 1 ≤ℤ scale
      → IsEquilibrium (unit_firms trades firms) (unit_trades trades) scale on prices → prices u ≤ℤ (scale *ℤ cost)
  pub below : (firms : List CountFirm) (trades : List UnitTrade) (counts sold bought : ℕ → ℕ) (cost : ℤ) (u : ℕ)
      → FitByCounts firms trades → IsEfficientByCounts firms trades counts
      → LoseApart firms trades counts sold bought cost → u < unit_count trades
      → HasOneMore trades (trade_of trades u) bought sold
      → (scale : ℤ) (on : ℕ) (prices : ℕ → ℤ) → pos 1 ≤ℤ scale
      → IsEquilibrium (unit_firms trades firms) (unit_trades trades) scale on prices
      → neg_ℤ (scale *ℤ cost) ≤ℤ prices u

-- a number for each trade is the greatest price among its twins
pub record AreGreatestOfTwins (trades : List UnitTrade) (prices ones : ℕ → ℤ) : Type 0 where
  pub most : (u : ℕ) → u < unit_count trades → prices u ≤ℤ ones (trade_of trades u)
  pub reached : (u : ℕ) → u < unit_count trades
      → (v : ℕ) × (v < unit_count trades) × (trade_of trades v ≡ trade_of trades u)
      × (prices v ≡ ones (trade_of trades u))

-- or the least
pub record AreLeastOfTwins (trades : List UnitTrade) (prices ones : ℕ → ℤ) : Type 0 where
  pub least : (u : ℕ) → u < unit_count trades → ones (trade_of trades u) ≤ℤ prices u
  pub reached : (u : ℕ) → u < unit_count trades
      → (v : ℕ) × (v < unit_count trades) × (trade_of trades v ≡ trade_of trades u)
      × (prices v ≡ ones (trade_of trades u))

-- unit firms that meet exchange, and prices of unit trades at which a set is an equilibrium
pub record HasUnitPrices (firms : List CountFirm) (trades : List UnitTrade) (scale : ℤ) (on : ℕ) (prices : ℕ → ℤ) : Type
    0 where
  pub fit : FitByCounts firms trades
  pub exchange : MeetExchange (unit_firms trades firms)
  pub from_one : pos 1 ≤ℤ scale
  pub equilibrium : IsEquilibrium (unit_firms trades firms) (unit_trades trades) scale on prices

-- then the greatest prices among each trade's twins are prices for all of them with the same set, and so are the least
pub record OnePriceIsEnough : Type 0 where
  pub greatest : (firms : List CountFirm) (trades : List UnitTrade) (scale : ℤ) (on : ℕ) (prices ones : ℕ → ℤ)
      → HasUnitPrices firms trades scale on prices → AreGreatestOfTwins trades prices ones
      → IsEquilibrium (unit_firms trades firms) (unit_trades trades) scale on (price_of_unit trades ones)
  pub least : (firms : List CountFirm) (trades : List UnitTrade) (scale : ℤ) (on : ℕ) (prices ones : ℕ → ℤ)
      → HasUnitPrices firms trades scale on prices → AreLeastOfTwins trades prices ones
      → IsEquilibrium (unit_firms trades firms) (unit_trades trades) scale on (price_of_unit trades ones)

-- the unit firms of a market of laminar firms meet exchange
abbrev pub MarketsMeetExchange : Type 0
MarketsMeetExchange = (market : UnitMarket) → IsUnitMarket market
    → MeetExchange (unit_firms market.trades.items (firms_of market))

-- a unit firm meets exchange exactly where its firm exchanges by counts
abbrev pub ExchangeByCounts : Type 0
ExchangeByCounts = (firms : List CountFirm) (trades : List UnitTrade) (f : ℕ) (firm : CountFirm)
    → FitByCounts firms trades → slice_get firms f ≡ Some firm
    → ExchangesByCounts trades f firm ↔ MeetsExchange (unit_firm trades f firm)

-- contracts by counts that can be signed together are unit contracts that can, and each has as many twins as it has units,
-- all of its own trade
pub record UnitContractsAreOfContracts : Type 0 where
  pub feasible : (trades : List UnitTrade) (contracts : List UnitContract) → AreUnitContracts trades contracts
      → IsFeasible (unit_trades trades) (unit_contracts trades contracts)
  pub each : (trades : List UnitTrade) (contracts : List UnitContract) → AreUnitContracts trades contracts
      → (k : ℕ) → k < length contracts
      → count_below (λ u. k == split_of contracts (trade_of trades u) (twins_before trades u)) (unit_count trades)
      ≡ (contract_at contracts k).units
  pub own : (contracts : List UnitContract) (k t m : ℕ) → k < length contracts → split_of contracts t m ≡ k
      → (contract_at contracts k).trade ≡ t

-- no firm would rather drop some of its units exactly where no firm would rather drop some of its unit contracts
abbrev pub RationalByCounts : Type 0
RationalByCounts = (firms : List CountFirm) (trades : List UnitTrade) (over : ℤ) (contracts : List UnitContract)
    → FitByCounts firms trades → AreUnitContracts trades contracts
    → IsRationalByCounts firms trades over contracts
    ↔ IsIndividuallyRational (unit_firms trades firms) (unit_trades trades) over (unit_contracts trades contracts)

-- prices of the unsigned units complete an outcome exactly where they complete its unit contracts, at one price for the
-- unsigned twins of a trade
abbrev pub CompletedByCounts : Type 0
CompletedByCounts = (firms : List CountFirm) (trades : List UnitTrade) (over : ℤ) (contracts : List UnitContract)
    (prices : ℕ → ℤ) → FitByCounts firms trades → AreUnitContracts trades contracts
    → CompletesByCounts firms trades over contracts prices
    ↔ Completes (unit_firms trades firms) (unit_trades trades) over (unit_contracts trades contracts)
    (split_price trades contracts prices)

-- where firms meet exchange, some prices of units complete an outcome exactly where some prices of twins complete its unit
-- contracts, the same for twins or not
abbrev pub CompletableByCounts : Type 0
CompletableByCounts = (firms : List CountFirm) (trades : List UnitTrade) (over : ℤ) (contracts : List UnitContract)
    → FitByCounts firms trades → AreUnitContracts trades contracts → MeetExchange (unit_firms trades firms)
    → pos 1 ≤ℤ over
    → ((prices : ℕ → ℤ) × CompletesByCounts firms trades over contracts prices)
    ↔ ((prices : ℕ → ℤ)
    × Completes (unit_firms trades firms) (unit_trades trades) over (unit_contracts trades contracts) prices)

-- where offers by counts block an outcome, the unit offers block its unit contracts, and the other way round, where each
-- offer has a unit and they can be signed beside the contracts; so an outcome whose unit contracts are stable is stable by
-- counts
pub record BlockedByCounts : Type 0 where
  pub blocks : (firms : List CountFirm) (trades : List UnitTrade) (d : ℤ) (contracts : List UnitContract) (e : ℤ)
      (offers : List UnitContract) → FitByCounts firms trades
      → BlocksByCounts firms trades d contracts e offers
      → Blocks (unit_firms trades firms) (unit_trades trades) d (unit_contracts trades contracts) e
      (unit_offers trades contracts offers)
  pub by_counts : (firms : List CountFirm) (trades : List UnitTrade) (d : ℤ) (contracts : List UnitContract) (e : ℤ)
      (offers : List UnitContract) → FitByCounts firms trades → AreUnitContracts trades (contracts ++ offers)
      → ((k : ℕ) (offer : UnitContract) → slice_get offers k ≡ Some offer → 0 < offer.units)
      → Blocks (unit_firms trades firms) (unit_trades trades) d (unit_contracts trades contracts) e
      (unit_offers trades contracts offers)
      → BlocksByCounts firms trades d contracts e offers
  pub stable : (firms : List CountFirm) (trades : List UnitTrade) (d : ℤ) (contracts : List UnitContract)
      → FitByCounts firms trades
      → IsStable (unit_firms trades firms) (unit_trades trades) d (unit_contracts trades contracts)
      → IsStableByCounts firms trades d contracts

-- where contracts of unit trades, over any denominator, block the unit contracts of an outcome, none of them is on a signed
-- twin if each firm can have some of what is signed (one that can't may have no choice, and so takes whatever is offered);
-- and where none is, they are offers by counts of one unit each that block the outcome. Twins may be at different prices
pub record BlockedByUnits : Type 0 where
  pub unsigned : (firms : List CountFirm) (trades : List UnitTrade) (d : ℤ) (contracts : List UnitContract) (e : ℤ)
      (offers : List Contract) → FitByCounts firms trades → AreUnitContracts trades contracts
      → CanHaveSome firms contracts
      → Blocks (unit_firms trades firms) (unit_trades trades) d (unit_contracts trades contracts) e offers
      → (k : ℕ) (offer : Contract) → slice_get offers k ≡ Some offer
      → has (signed_twins trades contracts) offer.trade ≡ false
  pub by_counts : (firms : List CountFirm) (trades : List UnitTrade) (d : ℤ) (contracts : List UnitContract) (e : ℤ)
      (offers : List Contract) → FitByCounts firms trades → AreUnitContracts trades contracts
      → ((k : ℕ) (offer : Contract) → slice_get offers k ≡ Some offer
      → has (signed_twins trades contracts) offer.trade ≡ false)
      → Blocks (unit_firms trades firms) (unit_trades trades) d (unit_contracts trades contracts) e offers
      → BlocksByCounts firms trades d contracts e (single_offers trades offers)

-- an outcome is stable by counts exactly where its unit contracts are stable, if each firm can have some of what is signed,
-- as in a market of laminar firms; and any outcome is rational and stable exactly where its unit contracts are
pub record StableByCounts : Type 0 where
  pub stable : (firms : List CountFirm) (trades : List UnitTrade) (d : ℤ) (contracts : List UnitContract)
      → FitByCounts firms trades → AreUnitContracts trades contracts → CanHaveSome firms contracts
      → IsStableByCounts firms trades d contracts
      ↔ IsStable (unit_firms trades firms) (unit_trades trades) d (unit_contracts trades contracts)
  pub of_market : (market : UnitMarket) (d : ℤ) (contracts : List UnitContract) → IsUnitMarket market
      → AreUnitContracts market.trades.items contracts
      → IsStableByCounts (firms_of market) market.trades.items d contracts
      ↔ IsStable (unit_firms market.trades.items (firms_of market)) (unit_trades market.trades.items) d
      (unit_contracts market.trades.items contracts)
  pub rational : (firms : List CountFirm) (trades : List UnitTrade) (d : ℤ) (contracts : List UnitContract)
      → FitByCounts firms trades → AreUnitContracts trades contracts
      → (IsRationalByCounts firms trades d contracts × IsStableByCounts firms trades d contracts)
      ↔ (IsIndividuallyRational (unit_firms trades firms) (unit_trades trades) d (unit_contracts trades contracts)
      × IsStable (unit_firms trades firms) (unit_trades trades) d (unit_contracts trades contracts))

-- no contracts for single units, over any denominator, block an outcome that some prices complete, and no offers by counts
pub record CompletedByCountsAreStable : Type 0 where
  pub over_units : (firms : List CountFirm) (trades : List UnitTrade) (over : ℤ) (contracts : List UnitContract)
      (prices : ℕ → ℤ) → FitByCounts firms trades → AreUnitContracts trades contracts
      → CompletesByCounts firms trades over contracts prices
      → IsStable (unit_firms trades firms) (unit_trades trades) over (unit_contracts trades contracts)
  pub by_counts : (firms : List CountFirm) (trades : List UnitTrade) (over : ℤ) (contracts : List UnitContract)
      (prices : ℕ → ℤ) → FitByCounts firms trades → AreUnitContracts trades contracts
      → CompletesByCounts firms trades over contracts prices → IsStableByCounts firms trades over contracts
