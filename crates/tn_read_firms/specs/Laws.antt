-- What holds of the firms of each kind that are read, in words that know nothing of the reading.
use Rattle.std.specs.Prelude.{◌≡◌, ℕ, ◌≤◌, ℤ, List, length, All, Option}
use Rattle.std.specs.Option.{ForSome}
use Rattle.tn_base.specs.Arcs.{IsAtMost}
use Rattle.tn_base.specs.Table.{table_firm}
use Rattle.tn_base.specs.Firm.{Firm}
use Rattle.tn_exchange.specs.RowsLaw.{AreApart}
use Rattle.tn_local.specs.First.{IsFullIfLarge}
use Rattle.tn_laminar.specs.declared.set.LaminarSet.{LaminarSet}
use Rattle.tn_laminar.specs.Faults.{AreSound}
use Rattle.tn_laminar.specs.Sum.{IsOwnSet, laminar_firm}
use Rattle.tn_market.specs.Valued.{IsWorthAtMost}
use Rattle.tn_middle.specs.Pairs.{middle_firm}
use Rattle.tn_base.specs.Table.{buys_of}
use Rattle.tn_dealer.specs.declared.pair.Pair.{Pair}
use Rattle.tn_dealer.specs.Pairs.{AreUnrepeated, IsOwnPair, dealer_firm}
use Rattle.tn_model.specs.declared.limits.Limits.{Limits}
use Rattle.tn_model.specs.declared.ends.Ends.{Ends}
use Rattle.tn_read_references.specs.Ordered.{sides_of}

-- firm f is a list of numbers for bundles of its own trades, no bundle twice, each number within the limit of amounts;
-- with more than 10 own trades every bundle is possible
pub record IsTableFirm (limits : Limits) (trades : List Ends) (f : ℕ) (firm : Firm) : Type 0 where
  pub rows : List (ℕ × ℤ)
  pub apart : AreApart (length (sides_of trades f)) rows
  pub is : firm ≡ table_firm (sides_of trades f) rows
  pub few : length (sides_of trades f) ≤ limits.own_of_table
  pub full : IsFullIfLarge firm
  pub small : IsWorthAtMost limits.amount firm

-- a set's numbers are few and small, and begin near 0
pub record HasFewNumbers (limits : Limits) (set : LaminarSet) : Type 0 where
  pub low : IsAtMost set.low limits.from
  pub few : length set.numbers ≤ limits.values
  pub small : All (λ a. IsAtMost a limits.amount) set.numbers

-- firm f has an amount for each own trade, and sets of own trades that don't cross, with concave numbers
pub record IsLaminarFirm (limits : Limits) (trades : List Ends) (f : ℕ) (firm : Firm) : Type 0 where
  pub amounts : List ℤ
  pub sets : List LaminarSet
  pub is : firm ≡ laminar_firm (sides_of trades f) amounts sets
  pub few : length (sides_of trades f) ≤ limits.own
  pub as_many : length amounts ≡ length (sides_of trades f)
  pub small : All (λ a. IsAtMost a limits.amount) amounts
  pub few_sets : length sets ≤ limits.sets
  pub own : All (IsOwnSet (length (sides_of trades f))) sets
  pub numbered : All (HasFewNumbers limits) sets
  pub sound : AreSound sets

-- firm f pairs its purchases with its sales, at a cost or gain for each, and may keep one
pub record IsMiddlemanFirm (limits : Limits) (trades : List Ends) (f : ℕ) (firm : Firm) : Type 0 where
  pub numbers : List ℤ
  pub keep : Option ℤ
  pub is : firm ≡ middle_firm (sides_of trades f) numbers keep
  pub few : length (sides_of trades f) ≤ limits.own
  pub as_many : length numbers ≡ length (sides_of trades f)
  pub small : All (λ a. IsAtMost a limits.amount) numbers
  pub small_keep : ForSome keep (λ a. IsAtMost a limits.amount)

-- firm f matches its purchases one to one with its sales, by pairs of which none is listed twice, at small costs
pub record IsDealerFirm (limits : Limits) (trades : List Ends) (f : ℕ) (firm : Firm) : Type 0 where
  pub pairs : List Pair
  pub is : firm ≡ dealer_firm (sides_of trades f) pairs
  pub few : length (sides_of trades f) ≤ limits.own
  pub own : All (IsOwnPair (length (sides_of trades f)) (buys_of (sides_of trades f))) pairs
  pub small : All (λ pair. IsAtMost pair.cost limits.amount) pairs
  pub different : AreUnrepeated pairs

-- firm f is of one of the four kinds
pub data IsListedFirm (limits : Limits) (trades : List Ends) (f : ℕ) (firm : Firm) : Type 0 where
  table : IsTableFirm limits trades f firm → IsListedFirm limits trades f firm
  laminar : IsLaminarFirm limits trades f firm → IsListedFirm limits trades f firm
  middleman : IsMiddlemanFirm limits trades f firm → IsListedFirm limits trades f firm
  dealer : IsDealerFirm limits trades f firm → IsListedFirm limits trades f firm
