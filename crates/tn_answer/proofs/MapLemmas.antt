-- A list that is filled place by place.
use Rattle.std.proofs.Common.{◌≡◌, ℕ, zero, suc, ◌+◌, ◌≤◌, List, [], ◌∷◌, ◌++◌, map, flat_map, take, length, slice_get, Some, option_map, sym, ap, ◌∙◌, arith, add-one, append-nil}
use Rattle.std.proofs.lemmas.Grind.{common_steps, flat_map-append}
use Rattle.std.proofs.lemmas.List.{map-append}
use Rattle.std.proofs.lemmas.Option.{none-some, same_Some, slice_get-map}

module _ {B : Type 0} where
  pub take-suc-at : (xs : List B) (k : ℕ) (x : B) → slice_get xs k ≡ Some x → take (suc k) xs ≡ take k xs ++ x ∷ []
  take-suc-at [] k x e = absurd (none-some x e)
  take-suc-at (y ∷ ys) zero x e = ap (λ z. z ∷ []) (same_Some y x e)
  take-suc-at (y ∷ ys) (suc k) x e = ap (λ zs. y ∷ zs) (take-suc-at ys k x e)

  pub take-whole : (xs : List B) (k : ℕ) → length xs ≤ k → take k xs ≡ xs
  take-whole xs k h = grind (arith, common_steps)

  pub taken-whole : (done all : List B) (k : ℕ) → done ≡ take k all → length all ≤ k → done ≡ all
  taken-whole done all k so_far h = so_far ∙ take-whole all k h

module _ {A B : Type 0} (v : A → B) where
  -- what the first lists have, with what one more has
  pub flat-push : (done : List A) (all : List (List B)) (k : ℕ) → map v done ≡ flat_map (λ ds. ds) (take k all)
      → (next : List A) → slice_get all k ≡ Some (map v next)
      → map v (done ++ next) ≡ flat_map (λ ds. ds) (take (k + 1) all)
  flat-push done all k so_far next at =
      map-append v done next ∙ ap (λ vs. vs ++ map v next) so_far
      ∙ ap (λ vs. flat_map (λ ds. ds) (take k all) ++ vs) (sym (append-nil (map v next)))
      ∙ sym (flat_map-append (λ ds. ds) (take k all) (map v next ∷ []))
      ∙ ap (flat_map (λ ds. ds)) (sym (take-suc-at all k (map v next) at) ∙ ap (λ n. take n all) (sym (add-one k)))

  -- and where that has nothing
  pub flat-kept : (done : List A) (all : List (List B)) (k : ℕ) → map v done ≡ flat_map (λ ds. ds) (take k all)
      → slice_get all k ≡ Some []
      → map v done ≡ flat_map (λ ds. ds) (take (k + 1) all)
  flat-kept done all k so_far at =
      ap (map v) (sym (append-nil done)) ∙ flat-push done all k so_far [] at

module _ {A B : Type 0} where
  pub map-there : (f : A → B) (xs : List A) (k : ℕ) (x : A) (y : B) → slice_get xs k ≡ Some x → y ≡ f x
      → slice_get (map f xs) k ≡ Some y
  map-there f xs k x y at same = slice_get-map f xs k ∙ ap (option_map f) at ∙ ap Some (sym same)

  -- the first items, with one more
  pub take-push : (v : A → B) (done : List A) (all : List B) (k : ℕ) → map v done ≡ take k all → (next : A)
      → slice_get all k ≡ Some (v next) → map v (done ++ next ∷ []) ≡ take (k + 1) all
  take-push v done all k so_far next at =
      map-append v done (next ∷ []) ∙ ap (λ vs. vs ++ v next ∷ []) so_far ∙ sym (take-suc-at all k (v next) at)
      ∙ ap (λ n. take n all) (sym (add-one k))
