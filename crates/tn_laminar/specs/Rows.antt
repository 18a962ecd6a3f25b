-- Sums of sets' numbers in which one that isn't listed can be told, so that single steps can be added to them.
use Rattle.std.specs.Prelude.{◌≡◌, ℕ, zero, suc, ◌^◌, ◌<◌, ℤ, pos, neg_ℤ, ◌+ℤ◌, ◌-ℤ◌, int_le, if◌then◌else◌, true, List, get_or, Option, Some, None, slice_get}
use Rattle.tn_base.specs.Firm.{net}
use Rattle.tn_base.specs.Sets.{has, meet, toggle}
use Rattle.tn_firm_laws.specs.Nested.{listed_from}
use Rattle.tn_laminar.specs.declared.set.LaminarSet.{LaminarSet}
use Rattle.tn_laminar.specs.declared.row.Slope.{Slope}
use Rattle.tn_laminar.specs.Sum.{set_number}

-- what a number counts in a sum is at most so much in size
abbrev pub most_counted : ℕ
most_counted = 10 ^ 12

-- what a number counts: one that isn't listed counts so little that no sum with it is one of listed numbers
unfoldable pub counted_or_unlisted : Option ℤ → ℤ
counted_or_unlisted (Some number) = number
counted_or_unlisted None = neg_ℤ (pos most_counted)

-- the sum that was counted, none where a number wasn't listed
unfoldable pub listed_sum : ℤ → Option ℤ
listed_sum total = if int_le (neg_ℤ (pos (10 ^ 11))) total then Some total else None

-- what the numbers of the first k sets count at a bundle
unfoldable pub counted_sum : ℕ → List LaminarSet → ℕ → ℕ → ℤ
counted_sum buys sets zero x = pos 0
counted_sum buys sets (suc k) x =
    counted_sum buys sets k x +ℤ counted_or_unlisted (set_number buys x (slice_get sets k))

-- what a set's number counts where the net count of a bundle within it is so much more
abbrev pub counted_beside : ℕ → ℕ → LaminarSet → ℤ → ℤ
counted_beside buys x set more =
    counted_or_unlisted (listed_from set.low set.numbers (net buys (meet x set.members) +ℤ more))

-- how much more a set's number counts where the net count of a bundle within it is one more, and one less
pub record IsSlope (buys x : ℕ) (set : LaminarSet) (slope : Slope) : Type 0 where
  pub up : slope.up ≡ counted_beside buys x set (pos 1) -ℤ counted_beside buys x set (pos 0)
  pub down : slope.down ≡ counted_beside buys x set (neg_ℤ (pos 1)) -ℤ counted_beside buys x set (pos 0)

-- the step that a toggle makes: up where a purchase moves in or a sale out, else down
abbrev pub step_of : ℕ → ℕ → Slope → ℕ → ℤ
step_of buys x slope j = if has buys j then (if has x j then slope.down else slope.up)
    else (if has x j then slope.up else slope.down)

-- how much more the numbers of the first k sets count where position j is toggled
abbrev pub counted_change : ℕ → List LaminarSet → ℕ → ℕ → ℕ → ℤ
counted_change buys sets k x j = counted_sum buys sets k (toggle x j) -ℤ counted_sum buys sets k x

-- the same for each wanted position
abbrev pub AreChanges : ℕ → List LaminarSet → ℕ → ℕ → ℕ → List ℤ → Type 0
AreChanges buys sets k x wanted changes = (j : ℕ) → has wanted j ≡ true
    → get_or changes j (pos 0) ≡ counted_change buys sets k x j
