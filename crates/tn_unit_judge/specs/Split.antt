-- The split network of an outcome as a market: a trade for each contract, then one for what is unsigned of each trade, in the
-- same sets, and all numbers counted as often as the outcome's denominator says.
use Rattle.std.specs.Prelude.{◌≡◌, ℕ, ◌*◌, ℤ, pos, ◌*ℤ◌, List, ◌++◌, length, map, get_or, slice_get, Some, ◌&&◌, nat_lt}
use Rattle.std.specs.List.{range_with_len}
use Rattle.tn_links.specs.declared.link.Step.{Step}
use Rattle.tn_counts.specs.Laminar.{amounts_at, holds}
use Rattle.tn_counts.specs.Outcomes.{split_trades}
use Rattle.tn_counts.specs.Widths.{most_unit_amount}
use Rattle.tn_counts.specs.declared.contract.UnitContract.{UnitContract}
use Rattle.tn_counts.specs.declared.market.UnitMarket.{UnitMarket}
use Rattle.tn_counts.specs.declared.set.CountSet.{CountSet}
use Rattle.tn_counts.specs.declared.trade.UnitAmounts.{UnitAmounts}

-- all numbers are counted at most so often: a denominator of at most 100, times a unit of each of 4,096 trades at both ends,
-- and once more
abbrev pub most_split_over : ℕ
most_split_over = 100 * 8193

-- a number is at most so much then, in size
abbrev pub most_split_amount : ℕ
most_split_amount = most_split_over * most_unit_amount

-- the trade of which each trade of the split network is a part
abbrev pub origins : ℕ → List UnitContract → List ℕ
origins trades contracts = map (λ contract. contract.trade) contracts ++ map (λ t. t) (range_with_len 0 trades)

-- numbers that are counted so often
abbrev pub times_amounts : ℕ → UnitAmounts → UnitAmounts
times_amounts over amounts = record { seller = pos over *ℤ amounts.seller; buyer = pos over *ℤ amounts.buyer }

abbrev pub times_step : ℕ → Step → Step
times_step over step = record { units = step.units; each = pos over *ℤ step.each }

-- a set of the split network has the parts of its trades
pub record IsSplitSet (over : ℕ) (from : List ℕ) (set split : CountSet) : Type 0 where
  pub firm : split.firm ≡ set.firm
  pub members : (k : ℕ) → holds split k ≡ (nat_lt k (length from) && holds set (get_or from k 0))
  pub constant : split.constant ≡ pos over *ℤ set.constant
  pub back : split.back ≡ set.back
  pub steps : split.steps.items ≡ map (times_step over) set.steps.items

-- the sets of the split network, by number
pub record AreSplitSets (over : ℕ) (from : List ℕ) (sets splits : List CountSet) : Type 0 where
  pub sized : length splits ≡ length sets
  pub each : (i : ℕ) (set split : CountSet) → slice_get sets i ≡ Some set → slice_get splits i ≡ Some split
      → IsSplitSet over from set split

-- the split network, of which so many unsigned units may go
pub record IsSplitMarket (market : UnitMarket) (over : ℕ) (contracts : List UnitContract) (free : ℕ → ℕ)
    (split : UnitMarket) : Type 0 where
  pub firms : split.firms ≡ market.firms
  pub trades : split.trades.items ≡ split_trades market.trades.items contracts free
  pub amounts : split.amounts.items
      ≡ map (λ t. times_amounts over (amounts_at market.amounts.items t)) (origins (length market.trades.items) contracts)
  pub sets : AreSplitSets over (origins (length market.trades.items) contracts) market.sets.items split.sets.items

-- what is signed of each trade of the split network, and at what prices
abbrev pub signed_counts : ℕ → List UnitContract → List ℕ
signed_counts trades contracts = map (λ contract. contract.units) contracts ++ map (λ t. 0) (range_with_len 0 trades)

abbrev pub signed_prices : ℕ → List UnitContract → List ℤ
signed_prices trades contracts = map (λ contract. contract.price) contracts ++ map (λ t. pos 0) (range_with_len 0 trades)
