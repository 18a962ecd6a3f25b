-- What a function gives for the number and the item of each place of a list.
use Rattle.std.proofs.Common.{refl, ◌≡◌, ℕ, zero, suc, ◌+◌, List, [], ◌∷◌, length, slice_get, Some, sym, ap, ◌∙◌, arith}
use Rattle.std.proofs.lemmas.Option.{none-some, same_Some}
use Rattle.tn_answer.specs.Rows.{each_from}

module _ {A B : Type 0} (f : ℕ → A → B) where
  pub each-there : (from : ℕ) (xs : List A) (k : ℕ) (x : A) → slice_get xs k ≡ Some x
      → slice_get (each_from f from xs) k ≡ Some (f (from + k) x)
  each-there from [] k x e = absurd (none-some x e)
  each-there from (y ∷ ys) zero x e =
      ap (λ z. Some (f from z)) (same_Some y x e) ∙ ap (λ n. Some (f n x)) (let same : from ≡ from + 0 = omega arith in
      same)
  each-there from (y ∷ ys) (suc k) x e =
      each-there (suc from) ys k x e ∙ ap (λ n. Some (f n x)) (let same : suc from + k ≡ from + suc k = omega arith in
      same)

  pub each-length : (from : ℕ) (xs : List A) → length (each_from f from xs) ≡ length xs
  each-length from [] = refl
  each-length from (x ∷ xs) = ap suc (each-length (suc from) xs)

  pub each-here : (xs : List A) (k : ℕ) (x : A) (y : B) → slice_get xs k ≡ Some x → y ≡ f k x
      → slice_get (each_from f 0 xs) k ≡ Some y
  each-here xs k x y at same =
      each-there 0 xs k x at ∙ ap (λ n. Some (f n x)) (let here : 0 + k ≡ k = omega arith in here) ∙ ap Some (sym same)

  pub each-is : (xs : List A) (k : ℕ) (x : A) (y : B) → slice_get xs k ≡ Some x
      → slice_get (each_from f 0 xs) k ≡ Some y → f k x ≡ y
  each-is xs k x y at there = same_Some (f k x) y (sym (each-here xs k x (f k x) at refl) ∙ there)
