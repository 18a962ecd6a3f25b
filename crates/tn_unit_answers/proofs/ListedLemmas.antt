-- What holds of the items, made by number, that pass a test.
use Rattle.std.proofs.Common.{◌≡◌, ℕ, ◌+◌, ◌<◌, Bool, true, false, cond, List, [], ◌∷◌, map, refl, sym, ap₂, subst, arith}
use Rattle.std.specs.Prelude.{All}
use Rattle.std.specs.List.{filter, range_with_len}
use Rattle.std.specs.List.Sorted.{IsStrictlyIncreasing}
use Rattle.std.proofs.lemmas.List.Elements.{All-filter, All-from_get_or, All-map, All-weaker}
use Rattle.std.proofs.lemmas.List.FromFn.{get_or-range_with_len, length-range_with_len}
use Rattle.std.proofs.lemmas.List.Kept.{IsStrictlyIncreasing-filter}

range_below : (n : ℕ) → All (λ t. t < n) (range_with_len 0 n)
range_below n = All-from_get_or (λ t. t < n) (range_with_len 0 n) 0 (λ t inside.
    let sized = length-range_with_len 0 n in
    let below : t < n = omega (arith, inside, sized) in
    let read = get_or-range_with_len 0 n t 0 below in
    omega (arith, below, read))

range_up : (n : ℕ) → IsStrictlyIncreasing (range_with_len 0 n)
range_up n k inside =
    let sized = length-range_with_len 0 n in
    let one = get_or-range_with_len 0 n k 0 (omega (arith, inside, sized)) in
    let next = get_or-range_with_len 0 n (k + 1) 0 (omega (arith, inside, sized)) in
    omega (arith, one, next)

module _ {A : Type 0} (p : A → Bool) (f : ℕ → A) where
  pub of_each : (n : ℕ) (P : A → Type 0) → ((t : ℕ) → t < n → P (f t))
      → All P (filter p (map f (range_with_len 0 n)))
  of_each n P each =
      All-filter p P (map f (range_with_len 0 n))
      (All-map P f (range_with_len 0 n)
      (All-weaker (λ t. t < n) (λ t. P (f t)) each (range_with_len 0 n) (range_below n)))

  module _ (number : A → ℕ) (back : (t : ℕ) → number (f t) ≡ t) where
    -- their numbers are those of all that pass
    numbers_are : (ts : List ℕ) → map number (filter p (map f ts)) ≡ filter (λ t. p (f t)) ts
    numbers_are [] = refl
    numbers_are (t ∷ ts) = by (numbers_are ts) (p (f t))
      where
        rest : List A
        rest = filter p (map f ts)

        others : List ℕ
        others = filter (λ t. p (f t)) ts

        by : map number rest ≡ others → (b : Bool)
            → map number (cond b (f t ∷ rest) rest) ≡ cond b (t ∷ others) others
        by same true = ap₂ (λ (first : ℕ) (list : List ℕ). first ∷ list) (back t) same
        by same false = same

    pub numbers_ascend : (n : ℕ) → IsStrictlyIncreasing (map number (filter p (map f (range_with_len 0 n))))
    numbers_ascend n =
        subst IsStrictlyIncreasing (sym (numbers_are (range_with_len 0 n)))
        (IsStrictlyIncreasing-filter (λ t. p (f t)) (range_with_len 0 n) (range_up n))
