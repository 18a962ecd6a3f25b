-- Sums of concave functions of net counts over nested sets.
use Rattle.std.specs.Prelude.{◌≡◌, ◌≢◌, ℕ, ◌+◌, ◌^◌, ◌<◌, nat_lt, ℤ, pos, negsuc, ◌+ℤ◌, ◌-ℤ◌, ◌*ℤ◌, ◌≤ℤ◌, ◌<ℤ◌, if◌then◌else◌, List, [], ◌∷◌, length, get_or, Option, Some, None, slice_get}
use Rattle.tn_base.specs.Options.{both}
use Rattle.tn_base.specs.Sets.{meet, minus, sum_over}
use Rattle.tn_base.specs.Firm.{Firm, net}

-- a set of positions, with a number for each net count of the bundle within the set, or none
pub record CountTerm : Type 0 where
  pub members : ℕ
  pub number_at : ℤ → Option ℤ

-- the sum of the numbers at the net counts of a bundle within each of the sets
abbrev pub count_sum : ℕ → List CountTerm → ℕ → Option ℤ
count_sum buys [] x = Some (pos 0)
count_sum buys (term ∷ terms) x = both (term.number_at (net buys (meet x term.members))) (count_sum buys terms x)

-- the firm whose worth is the sum of an amount for each position, and of a number for each set
abbrev pub nested_sum : ℕ → ℕ → (ℕ → ℤ) → List CountTerm → Firm
nested_sum count buys amounts terms = record {
  count = count;
  buys = buys;
  worth = λ x. if nat_lt x (2 ^ count) then both (Some (sum_over amounts count x)) (count_sum buys terms x) else None;
}

-- the numbers at two counts are there, and together they are at least the total
pub record AreEnoughAt (number_at : ℤ → Option ℤ) (a b : ℤ) (total : ℤ) : Type 0 where
  pub first : ℤ
  pub second : ℤ
  pub first_is : number_at a ≡ Some first
  pub second_is : number_at b ≡ Some second
  pub enough : total ≤ℤ (first +ℤ second)

-- concave: where two counts move one towards each other, their numbers together don't fall
abbrev pub IsConcave : (ℤ → Option ℤ) → Type 0
IsConcave number_at = (a b u v : ℤ) → number_at a ≡ Some u → number_at b ≡ Some v → a <ℤ b
    → AreEnoughAt number_at (a +ℤ pos 1) (b -ℤ pos 1) (u +ℤ v)

-- two sets cross: they have a member in common, and neither contains the other
abbrev pub Cross : ℕ → ℕ → Type 0
Cross s t = (meet s t ≢ 0) × (minus s t ≢ 0) × (minus t s ≢ 0)

-- the sets are of the first positions, each with a concave function, and no two of them cross
pub record AreNested (count : ℕ) (terms : List CountTerm) : Type 0 where
  pub own : (i : ℕ) (term : CountTerm) → slice_get terms i ≡ Some term → term.members < 2 ^ count
  pub concave : (i : ℕ) (term : CountTerm) → slice_get terms i ≡ Some term → IsConcave term.number_at
  pub uncrossed : (i j : ℕ) (first second : CountTerm) → i < j → slice_get terms i ≡ Some first
      → slice_get terms j ≡ Some second
      → Cross first.members second.members → ⊥

-- the number at a place of a list, none before its begin and past its end
abbrev pub at_place : List ℤ → ℤ → Option ℤ
at_place numbers (pos k) = slice_get numbers k
at_place numbers (negsuc k) = None

-- the numbers of a list, of which the first is the number at `low`
abbrev pub listed_from : ℤ → List ℤ → ℤ → Option ℤ
listed_from low numbers count = at_place numbers (count -ℤ low)

-- no number of the list is below the middle of its two neighbours
abbrev pub IsConcaveList : List ℤ → Type 0
IsConcaveList numbers = (k : ℕ) → k + 2 < length numbers
    → (get_or numbers k (pos 0) +ℤ get_or numbers (k + 2) (pos 0)) ≤ℤ (pos 2 *ℤ get_or numbers (k + 1) (pos 0))
