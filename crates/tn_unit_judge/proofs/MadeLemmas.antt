-- Lists that are made item by item.
use Rattle.std.proofs.Common.{◌≡◌, ℕ, zero, suc, ◌+◌, ◌<◌, List, [], ◌∷◌, ◌++◌, length, map, take, get_or, Some, slice_get, refl, sym, ap, ◌∙◌, subst, arith, inl, inr}
use Rattle.std.proofs.lemmas.Bool.{cases_lt}
use Rattle.std.proofs.lemmas.List.{get_or-append-add, get_or_append_left, length-append}
use Rattle.std.proofs.lemmas.Option.{get_or_from_slice_get, slice_get-get_or, slice_get_within}
use Rattle.tn_counts.specs.declared.set.CountSet.{CountSet}
use Rattle.tn_unit_judge.specs.Split.{IsSplitSet}

-- one item more of those that were gone over
pub map_take_more : {A B : Type 0} (f : A → B) (xs : List A) (k : ℕ) (d : A) → k < length xs
    → map f (take (k + 1) xs) ≡ map f (take k xs) ++ f (get_or xs k d) ∷ []
map_take_more f [] k d below = absurd (omega (arith, below))
map_take_more f (x ∷ xs) zero d below = refl
map_take_more f (x ∷ xs) (suc k) d below =
    let next : suc k + 1 ≡ suc (k + 1) = omega arith in
    ap (λ (n : ℕ). map f (take n (x ∷ xs))) next
    ∙ ap (λ ys. f x ∷ ys) (map_take_more f xs k d (omega (arith, below)))

pub taken_more : {A B : Type 0} (f : A → B) (xs : List A) (old new : List B) (y : B) (k : ℕ) (d : A) → k < length xs
    → new ≡ old ++ y ∷ [] → old ≡ map f (take k xs) → y ≡ f (get_or xs k d) → new ≡ map f (take (k + 1) xs)
taken_more f xs old new y k d below made before own =
    made ∙ ap (λ ys. ys ++ y ∷ []) before ∙ ap (λ z. map f (take k xs) ++ z ∷ []) own
    ∙ sym (map_take_more f xs k d below)

-- one set more
pub sets_more : (over : ℕ) (from : List ℕ) (sets splits after : List CountSet) (i : ℕ) (set split : CountSet)
    → length splits ≡ i → after ≡ splits ++ split ∷ [] → set ≡ get_or sets i set → i < length sets
    → IsSplitSet over from set split
    → ((j : ℕ) (one other : CountSet) → slice_get sets j ≡ Some one → slice_get splits j ≡ Some other
    → IsSplitSet over from one other)
    → (j : ℕ) (one other : CountSet) → slice_get sets j ≡ Some one → slice_get after j ≡ Some other
    → IsSplitSet over from one other
sets_more over from sets splits after i set split sized made read below is before j one other at_one at_other =
    elim (cases_lt j i) [
      | inl earlier ↦
          let there = slice_get-get_or splits j split (omega (arith, earlier, sized)) in
          let same : get_or splits j split ≡ other =
          sym (get_or_append_left splits (split ∷ []) split j (omega (arith, earlier, sized)))
          ∙ ap (λ xs. get_or xs j split) (sym made) ∙ get_or_from_slice_get after j other split at_other in
          before j one other at_one (there ∙ ap Some same)
      | inr past ↦
          let inside = slice_get_within after j other at_other in
          let long = ap length made ∙ length-append splits (split ∷ []) in
          let last : j ≡ i = omega (arith, past, inside, long, sized) in
          let place : length splits + 0 ≡ j = omega (arith, last, sized) in
          let same : split ≡ other =
          sym (get_or-append-add splits (split ∷ []) 0 split) ∙ ap (λ k. get_or (splits ++ split ∷ []) k split) place
          ∙ ap (λ xs. get_or xs j split) (sym made) ∙ get_or_from_slice_get after j other split at_other in
          let own : set ≡ one = read ∙ ap (λ k. get_or sets k set) (sym last)
          ∙ get_or_from_slice_get sets j one set at_one in
          subst (λ z. IsSplitSet over from one z) same (subst (λ z. IsSplitSet over from z split) own is)
    ]
