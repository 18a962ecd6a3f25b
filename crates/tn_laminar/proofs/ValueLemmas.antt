-- The sum of the sets' numbers, set by set.
use Rattle.std.proofs.Common.{◌≡◌, ℕ, ◌+◌, ◌*◌, ◌<◌, ◌≤◌, refl, sym, ap, inl, inr, ◌∙◌, arith, List, ◌∷◌, length, drop, map, Option, Some, None, ℤ, pos, ◌+ℤ◌, add-one, if◌then◌else◌}
use Rattle.std.specs.Prelude.{slice_get, option_map, IfSome}
use Rattle.std.proofs.lemmas.Int.{ints}
use Rattle.std.proofs.lemmas.Option.{none-some, same_Some, slice_get-map, slice_get_cases, slice_get_within, get_or_from_slice_get}
use Rattle.std.proofs.lemmas.List.{at_drop_more, at_drop_all}
use mir.Syntax.{w128}
use mir.Val.{of_z, to_z}
use Rattle.tn_base.specs.Arcs.{IsAtMost}
use Rattle.tn_base.specs.Sets.{has, meet, sum_over}
use Rattle.tn_base.specs.Firm.{net}
use Rattle.tn_base.specs.Options.{both}
use Rattle.tn_firm_laws.specs.Nested.{count_sum, listed_from}
use Rattle.tn_laminar.specs.declared.set.LaminarSet.{LaminarSet}
use Rattle.tn_laminar.specs.declared.masks.Masks.{Masks}
use Rattle.tn_laminar.specs.Masked.{masks_of, net_within}
use Rattle.tn_laminar.proofs.MaskLemmas.{net_within_is}
use Rattle.tn_laminar.specs.Sum.{term_of, set_number, HasNumbersWithin}
use Rattle.tn_laminar.specs.WithinLemmas.{listed_within}
use Rattle.tn_base.specs.Widths.{most_amount}

-- the total of the first sets, with the sum over the rest, is the sum; and it is small
pub record CountsSoFar (buys : ℕ) (sets : List LaminarSet) (x k : ℕ) (total : ℤ) : Type 0 where
  pub is : both (Some total) (count_sum buys (map term_of (drop k sets)) x) ≡ count_sum buys (map term_of sets) x
  pub small : IsAtMost total (k * most_amount)

both-zero : (o : Option ℤ) → both (Some (pos 0)) o ≡ o
both-zero None = refl
both-zero (Some a) = let e : pos 0 +ℤ a ≡ a = omega (arith, ints) in ap Some e

both-step : (t a : ℤ) (o : Option ℤ) → both (Some (t +ℤ a)) o ≡ both (Some t) (both (Some a) o)
both-step t a None = refl
both-step t a (Some b) = let e : (t +ℤ a) +ℤ b ≡ t +ℤ (a +ℤ b) = omega (arith, ints) in ap Some e

-- within a list there is an element
slice_get_past_not : (sets : List LaminarSet) (k : ℕ) → k < length sets → slice_get sets k ≡ None → ⊥
slice_get_past_not sets k inside e = elim (slice_get_cases sets k).1 [
  | inl found ↦ none-some found.0 (sym e ∙ found.2)
  | inr past ↦ let p = past.0 in omega (arith, inside, p)
]

pub counts_none : (buys : ℕ) (sets : List LaminarSet) (x : ℕ) → CountsSoFar buys sets x 0 (pos 0)
counts_none buys sets x = record {
  is = both-zero (count_sum buys (map term_of sets) x);
  small = record { low = omega (arith, ints); high = omega (arith, ints) };
}

-- the rest begins with the set at the place
rest_at : (buys : ℕ) (sets : List LaminarSet) (x k : ℕ) (set : LaminarSet) → slice_get sets k ≡ Some set
    → count_sum buys (map term_of (drop k sets)) x
    ≡ both (listed_from set.low set.numbers (net buys (meet x set.members)))
    (count_sum buys (map term_of (drop (k + 1) sets)) x)
rest_at buys sets x k set is =
    at_drop_more (λ rest. count_sum buys (map term_of rest) x) sets k set (slice_get_within sets k set is)
    ∙ ap (λ s. count_sum buys (map term_of (s ∷ drop (k + 1) sets)) x) (get_or_from_slice_get sets k set set is)

-- a set whose number is there
pub counts_more : (buys : ℕ) (sets : List LaminarSet) (x k : ℕ) (total number : ℤ) → k < length sets
    → set_number buys x (slice_get sets k) ≡ Some number → IsAtMost number most_amount
    → CountsSoFar buys sets x k total → CountsSoFar buys sets x (k + 1) (total +ℤ number)
counts_more buys sets x k total number inside number_is small so_far = by (slice_get sets k) refl number_is
  where
    by : (o : Option LaminarSet) → slice_get sets k ≡ o → set_number buys x o ≡ Some number
        → CountsSoFar buys sets x (k + 1) (total +ℤ number)
    by None e f = absurd (none-some number f)
    by (Some set) e f =
        let a = small.low in
        let b = small.high in
        let c = so_far.small.low in
        let d = so_far.small.high in
        record {
          is =
              both-step total number (count_sum buys (map term_of (drop (k + 1) sets)) x)
              ∙ ap (λ o. both (Some total) (both o (count_sum buys (map term_of (drop (k + 1) sets)) x))) (sym f)
              ∙ ap (both (Some total)) (sym (rest_at buys sets x k set e))
              ∙ so_far.is;
          small = record { low = omega (arith, ints, a, b, c, d); high = omega (arith, ints, a, b, c, d) };
        }

-- a set whose number isn't there
pub counts_stop : (buys : ℕ) (sets : List LaminarSet) (x k : ℕ) (total : ℤ) → k < length sets
    → set_number buys x (slice_get sets k) ≡ None
    → CountsSoFar buys sets x k total → None ≡ count_sum buys (map term_of sets) x
counts_stop buys sets x k total inside none so_far = by (slice_get sets k) refl none
  where
    by : (o : Option LaminarSet) → slice_get sets k ≡ o → set_number buys x o ≡ None
        → None ≡ count_sum buys (map term_of sets) x
    by None e f =
        let there = slice_get_past_not sets k inside in
        absurd (there e)
    by (Some set) e f =
        ap (λ o. both (Some total) (both o (count_sum buys (map term_of (drop (k + 1) sets)) x))) (sym f)
        ∙ ap (both (Some total)) (sym (rest_at buys sets x k set e))
        ∙ so_far.is

-- all sets
pub counts_all : (buys : ℕ) (sets : List LaminarSet) (x k : ℕ) (total : ℤ) → length sets ≤ k
    → CountsSoFar buys sets x k total
    → Some total ≡ count_sum buys (map term_of sets) x
counts_all buys sets x k total end so_far =
    let last : total +ℤ pos 0 ≡ total = omega (arith, ints) in
    ap Some (sym last)
    ∙ ap (both (Some total)) (sym (at_drop_all (λ rest. count_sum buys (map term_of rest) x) sets k end))
    ∙ so_far.is

-- one more term of a sum
pub sum_over-next : (c : ℕ → ℤ) (k x : ℕ) → sum_over c (k + 1) x ≡ sum_over c k x +ℤ (if has x k then c k else pos 0)
unfolding sum_over
sum_over-next c k x = rw add-one refl

-- the net count that the masks give
pub net_by_masks : (buys : ℕ) (sets : List LaminarSet) (masks : List Masks) (x k : ℕ) (set : LaminarSet) (mask : Masks)
    → masks ≡ map (λ set. masks_of buys set.members) sets → slice_get sets k ≡ Some set → slice_get masks k ≡ Some mask
    → net_within mask x ≡ net buys (meet x set.members)
net_by_masks buys sets masks x k set mask masked set_is mask_is =
    let mask_of : mask ≡ masks_of buys set.members =
    same_Some mask (masks_of buys set.members)
    (sym mask_is ∙ ap (λ (l : List Masks). slice_get l k) masked
    ∙ slice_get-map (λ set. masks_of buys set.members) sets k
    ∙ ap (option_map (λ set. masks_of buys set.members)) set_is) in
    ap (λ (m : Masks). net_within m x) mask_of ∙ net_within_is buys set.members x

-- the number at this net count
pub number_by_masks : (buys : ℕ) (sets : List LaminarSet) (masks : List Masks) (x k : ℕ) (set : LaminarSet)
    (mask : Masks)
    → masks ≡ map (λ set. masks_of buys set.members) sets → slice_get sets k ≡ Some set → slice_get masks k ≡ Some mask
    → listed_from set.low set.numbers (net_within mask x) ≡ set_number buys x (slice_get sets k)
number_by_masks buys sets masks x k set mask masked set_is mask_is =
    ap (listed_from set.low set.numbers) (net_by_masks buys sets masks x k set mask masked set_is mask_is)
    ∙ ap (set_number buys x) (sym set_is)

-- a listed number is small
pub number_small : (set : LaminarSet) (count : ℤ) (o : Option ℤ) → HasNumbersWithin set
    → o ≡ listed_from set.low set.numbers count
    → IfSome o (λ number. IsAtMost number most_amount)
number_small set count None within is = tt
number_small set count (Some number) within is = listed_within set most_amount within.small count number (sym is)

-- what the code computes
pub step_is : (total number : ℤ) (k : ℕ) → k ≤ 64 → IsAtMost total (k * most_amount) → IsAtMost number most_amount
    → to_z w128 (of_z w128 (total +ℤ to_z w128 (of_z w128 number))) ≡ total +ℤ number
step_is total number k few first second =
    let a = first.low in
    let b = first.high in
    let c = second.low in
    let d = second.high in
    omega (arith, ints, few, a, b, c, d)
