-- A sum of numbers that may be none is the same in every order.
use Rattle.std.proofs.Common.{◌≡◌, ℕ, zero, suc, ◌+◌, ◌≤◌, refl, sym, ap, ◌∙◌, arith, List, [], ◌∷◌, ℤ, pos, ◌+ℤ◌, ◌-ℤ◌, Option, Some, None}
use Rattle.std.specs.Prelude.{negsuc}
use Rattle.std.specs.List.{sum_by}
use Rattle.std.specs.List.Sorted.{IsPermutation}
use Rattle.std.proofs.lemmas.Int.{ints}
use Rattle.std.proofs.lemmas.List.Sorted.{sum_by-IsPermutation}
use Rattle.std.proofs.lemmas.List.Sums.{sum_by-cons}
use Rattle.tn_base.specs.Options.{both}

-- the sum of what is added, none where one adds none
abbrev pub sum_all : {A : Type 0} → (A → Option ℤ) → List A → Option ℤ
sum_all add [] = Some (pos 0)
sum_all add (x ∷ xs) = both (add x) (sum_all add xs)

-- 1 for none, and a number by its size above 0 and below it
misses : Option ℤ → ℕ
misses None = 1
misses (Some z) = 0

ups : Option ℤ → ℕ
ups (Some (pos n)) = n
ups (Some (negsuc n)) = 0
ups None = 0

downs : Option ℤ → ℕ
downs (Some (pos n)) = 0
downs (Some (negsuc n)) = suc n
downs None = 0

whole : ℕ → ℕ → ℕ → Option ℤ
whole zero up down = Some (pos up -ℤ pos down)
whole (suc n) up down = None

whole_none : (n up down : ℕ) → 1 ≤ n → whole n up down ≡ None
unfolding whole
whole_none zero up down some = absurd (omega (arith, some))
whole_none (suc n) up down some = refl

one_more : (z : Option ℤ) (n up down : ℕ) → both z (whole n up down)
    ≡ whole (misses z + n) (ups z + up) (downs z + down)
unfolding misses ups downs whole
one_more None n up down = sym (whole_none (1 + n) (0 + up) (0 + down) (omega arith))
one_more (Some z) (suc n) up down = sym (whole_none (0 + suc n) (ups (Some z) + up) (downs (Some z) + down)
    (omega arith))
one_more (Some (pos m)) zero up down =
    let sum : pos m +ℤ (pos up -ℤ pos down) ≡ pos (m + up) -ℤ pos (0 + down) = omega (arith, ints) in ap Some sum
one_more (Some (negsuc m)) zero up down =
    let sum : negsuc m +ℤ (pos up -ℤ pos down) ≡ pos (0 + up) -ℤ pos (suc m + down) = omega (arith, ints) in ap Some sum

parts_are : {A : Type 0} (add : A → Option ℤ) (xs : List A) → sum_all add xs
    ≡ whole (sum_by (λ x. misses (add x)) xs) (sum_by (λ x. ups (add x)) xs) (sum_by (λ x. downs (add x)) xs)
unfolding misses ups downs whole
parts_are add [] = refl
parts_are add (x ∷ xs) =
    let none = sum_by-cons (λ y. misses (add y)) x xs in
    let up = sum_by-cons (λ y. ups (add y)) x xs in
    let down = sum_by-cons (λ y. downs (add y)) x xs in
    rw (none, up, down) (ap (both (add x)) (parts_are add xs)
    ∙ one_more (add x) (sum_by (λ y. misses (add y)) xs) (sum_by (λ y. ups (add y)) xs) (sum_by (λ y. downs
    (add y)) xs))

pub sum_all-permutation : {A : Type 0} (add : A → Option ℤ) (xs ys : List A) → IsPermutation xs ys
    → sum_all add ys ≡ sum_all add xs
sum_all-permutation add xs ys same =
    let none = sum_by-IsPermutation (λ x. misses (add x)) xs ys same in
    let up = sum_by-IsPermutation (λ x. ups (add x)) xs ys same in
    let down = sum_by-IsPermutation (λ x. downs (add x)) xs ys same in
    parts_are add ys ∙ rw (none, up, down) (sym (parts_are add xs))
