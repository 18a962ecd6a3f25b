-- What every market of laminar firms keeps, and prices that are given.
use Rattle.std.specs.Prelude.{◌≡◌, ◌≢◌, ℕ, ◌<◌, ◌≤◌, List, length, sum_by, true, slice_get, Some}
use Rattle.tn_base.specs.Arcs.{IsAtMost}
use Rattle.tn_links.specs.Links.{AddAtMost, AreFalling, room}
use Rattle.tn_links.specs.Widths.{most_each}
use Rattle.tn_links.specs.declared.link.Step.{Step}
use Rattle.tn_counts.specs.Laminar.{holds}
use Rattle.tn_counts.specs.Widths.{most_count_sets, most_market_units, most_set_units, most_unit_amount, most_unit_firms, most_unit_trades, most_wide_amount, most_wide_trades}
use Rattle.tn_counts.specs.declared.market.Pin.{Pin}
use Rattle.tn_counts.specs.declared.market.UnitMarket.{UnitMarket}
use Rattle.tn_counts.specs.declared.set.CountSet.{CountSet}
use Rattle.tn_counts.specs.declared.trade.UnitAmounts.{UnitAmounts}
use Rattle.tn_counts.specs.declared.trade.UnitTrade.{UnitTrade}

-- a trade is between two different firms
pub record IsBetween (firms : ℕ) (trade : UnitTrade) : Type 0 where
  pub seller : trade.seller < firms
  pub buyer : trade.buyer < firms
  pub apart : trade.seller ≢ trade.buyer

-- all trades are
abbrev pub AreBetween : ℕ → List UnitTrade → Type 0
AreBetween firms trades = (t : ℕ) (trade : UnitTrade) → slice_get trades t ≡ Some trade → IsBetween firms trade

-- amounts are at most a limit, in size
pub record AreAmountsWithin (limit : ℕ) (amounts : UnitAmounts) : Type 0 where
  pub seller : IsAtMost amounts.seller limit
  pub buyer : IsAtMost amounts.buyer limit

-- amounts are small
abbrev pub AreSmallAmounts : UnitAmounts → Type 0
AreSmallAmounts amounts = AreAmountsWithin most_unit_amount amounts

-- those of all trades are
abbrev pub HaveSmallAmounts : List UnitAmounts → Type 0
HaveSmallAmounts amounts = (t : ℕ) (each : UnitAmounts) → slice_get amounts t ≡ Some each → AreSmallAmounts each

-- what each step adds is small
abbrev pub HaveSmallSteps : List Step → Type 0
HaveSmallSteps steps = (k : ℕ) (step : Step) → slice_get steps k ≡ Some step → IsAtMost step.each most_unit_amount

-- a set of one of the firms, with a concave function on net counts around 0, whose numbers are at most a limit
pub record IsSetWithin (limit firms : ℕ) (set : CountSet) : Type 0 where
  pub known : set.firm < firms
  pub around : set.back ≤ room set.steps.items
  pub few : room set.steps.items ≤ most_set_units
  pub concave : AreFalling set.steps.items
  pub small : AddAtMost limit set.steps.items
  pub constant : IsAtMost set.constant limit

-- one whose numbers are small
abbrev pub IsCountSet : ℕ → CountSet → Type 0
IsCountSet firms set = IsSetWithin most_unit_amount firms set

-- all sets are
abbrev pub AreCountSets : ℕ → List CountSet → Type 0
AreCountSets firms sets = (i : ℕ) (set : CountSet) → slice_get sets i ≡ Some set → IsCountSet firms set

-- where two sets are of one firm and share a trade, the second has all trades of the first
abbrev pub IsNested : CountSet → CountSet → Type 0
IsNested inner outer = (t u : ℕ) → inner.firm ≡ outer.firm → holds inner t ≡ true → holds outer t ≡ true
    → holds inner u ≡ true → holds outer u ≡ true

-- of two sets of a firm that share a trade the later one has all trades of the earlier
abbrev pub AreLaminar : List CountSet → Type 0
AreLaminar sets = (i k t u : ℕ) (inner outer : CountSet) → i < k → slice_get sets i ≡ Some inner
    → slice_get sets k ≡ Some outer → inner.firm ≡ outer.firm → holds inner t ≡ true → holds outer t ≡ true
    → holds inner u ≡ true → holds outer u ≡ true

-- few firms, trades and sets, and as many amounts as trades
pub record HasRoom (market : UnitMarket) : Type 0 where
  pub few_firms : market.firms ≤ most_unit_firms
  pub few_trades : length market.trades.items ≤ most_unit_trades
  pub few_sets : length market.sets.items ≤ most_count_sets
  pub as_many : length market.amounts.items ≡ length market.trades.items

-- a market of at most so many trades, whose numbers are at most a limit
pub record IsMarketWithin (trades limit : ℕ) (market : UnitMarket) : Type 0 where
  pub few_firms : market.firms ≤ most_unit_firms
  pub few_trades : length market.trades.items ≤ trades
  pub few_sets : length market.sets.items ≤ most_count_sets
  pub few_units : sum_by (λ trade. trade.units) market.trades.items ≤ most_market_units
  pub between : AreBetween market.firms market.trades.items
  pub as_many : length market.amounts.items ≡ length market.trades.items
  pub small : (t : ℕ) (each : UnitAmounts) → slice_get market.amounts.items t ≡ Some each → AreAmountsWithin limit each
  pub each : (i : ℕ) (set : CountSet) → slice_get market.sets.items i ≡ Some set → IsSetWithin limit market.firms set
  pub laminar : AreLaminar market.sets.items

-- a market within the limits
abbrev pub IsUnitMarket : UnitMarket → Type 0
IsUnitMarket market = IsMarketWithin most_unit_trades most_unit_amount market

-- one with as many trades again, and with large numbers: a market of which some units are signed, whose numbers are counted
-- many times, is one
abbrev pub IsWideMarket : UnitMarket → Type 0
IsWideMarket market = IsMarketWithin most_wide_trades most_wide_amount market

-- pins of different trades, at prices that links take
pub record ArePins (trades : ℕ) (pins : List Pin) : Type 0 where
  pub few : length pins ≤ trades
  pub known : (k : ℕ) (pin : Pin) → slice_get pins k ≡ Some pin → pin.trade < trades
  pub once : (j k : ℕ) (one other : Pin) → slice_get pins j ≡ Some one → slice_get pins k ≡ Some other
      → one.trade ≡ other.trade → j ≡ k
  pub small : (k : ℕ) (pin : Pin) → slice_get pins k ≡ Some pin → IsAtMost pin.price most_each
