-- The firm of an amount for each own trade, and of sets with a number for each net count within them.
use Rattle.std.specs.Prelude.{◌≡◌, ℕ, ◌^◌, ◌<◌, ◌≤◌, ℤ, pos, List, map, length, All, Option, Some, None}
use Rattle.tn_base.specs.Arcs.{IsAtMost}
use Rattle.tn_base.specs.Firm.{Firm, net}
use Rattle.tn_base.specs.Sets.{meet}
use Rattle.tn_base.specs.Table.{buys_of}
use Rattle.tn_base.specs.declared.side.Side.{Side}
use Rattle.tn_firm_laws.specs.Nested.{CountTerm, nested_sum, listed_from}
use Rattle.tn_laminar.specs.declared.set.LaminarSet.{LaminarSet}
use Rattle.tn_laminar.specs.declared.masks.Masks.{Masks}
use Rattle.tn_laminar.specs.Masked.{masks_of}
use Rattle.tn_laminar.specs.Faults.{AreSound}
use Rattle.tn_model.specs.Limits.{most_from, most_values, most_sets}
use Rattle.tn_base.specs.Widths.{most_amount}
use Rattle.tn_market.specs.Widths.{most_own}
use Rattle.tn_market.specs.OwnNumbers.{own_number}

-- a set's numbers are few and small, and begin near 0
pub record HasNumbersWithin (set : LaminarSet) : Type 0 where
  pub low : IsAtMost set.low most_from
  pub few : length set.numbers ≤ most_values
  pub small : All (λ a. IsAtMost a most_amount) set.numbers

-- the members are among so many own trades
abbrev pub IsOwnSet : ℕ → LaminarSet → Type 0
IsOwnSet count set = set.members < 2 ^ count

-- the set with its number at each net count that is listed
abbrev pub term_of : LaminarSet → CountTerm
term_of set = record { members = set.members; number_at = listed_from set.low set.numbers }

-- the number of a set at the net count of a bundle within it
abbrev pub set_number : ℕ → ℕ → Option LaminarSet → Option ℤ
set_number buys x (Some set) = listed_from set.low set.numbers (net buys (meet x set.members))
set_number buys x None = None

-- a bundle is worth the sum of its trades' amounts, and for each set the number at the net count within it; it is
-- impossible where one of these counts isn't listed
abbrev pub laminar_sum : ℕ → ℕ → List ℤ → List LaminarSet → Firm
laminar_sum count buys amounts sets = nested_sum count buys (own_number amounts) (map term_of sets)

abbrev pub laminar_firm : List Side → List ℤ → List LaminarSet → Firm
laminar_firm sides amounts sets = laminar_sum (length sides) (buys_of sides) amounts sets

-- what every laminar firm keeps
pub record IsLaminar (count buys : ℕ) (amounts : List ℤ) (sets : List LaminarSet) (masks : List Masks) : Type 0 where
  pub few : count ≤ most_own
  pub bought : buys < 2 ^ count
  pub as_many : length amounts ≡ count
  pub small : All (λ a. IsAtMost a most_amount) amounts
  pub few_sets : length sets ≤ most_sets
  pub own : All (IsOwnSet count) sets
  pub numbered : All HasNumbersWithin sets
  pub sound : AreSound sets
  pub masked : masks ≡ map (λ set. masks_of buys set.members) sets
