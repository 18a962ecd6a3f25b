-- Products of whole numbers, and sums over the first numbers.
use Rattle.std.proofs.Common.{◌≡◌, ◌≢◌, ℕ, zero, suc, ◌+◌, ◌<◌, refl, sym, ap, ◌∙◌, arith, inl, inr, ℤ, pos, ◌+ℤ◌, ◌-ℤ◌, ◌≤ℤ◌, Bool, ◌==◌, if◌then◌else◌}
use Rattle.std.specs.Prelude.{◌*ℤ◌, ◌<ℤ◌}
use Rattle.std.proofs.lemmas.Int.{by_lt_z, ints}
use Rattle.std.proofs.lemmas.Bool.{cases_eq, eq-eqb, ne_eqb}
use Rattle.std.proofs.Math.IntN.{negsuc, *ℤ-zero, *ℤ_comm}
use Rattle.tn_base.proofs.SumLemmas.{times-plus}
use Rattle.tn_links.specs.RiseLemmas.{times_suc}
use Rattle.tn_links.specs.Totals.{total}

pub times-minus : (a u v : ℤ) → a *ℤ (u -ℤ v) ≡ a *ℤ u -ℤ a *ℤ v
times-minus a u v =
    let sum = times-plus a (u -ℤ v) v in
    let whole : a *ℤ ((u -ℤ v) +ℤ v) ≡ a *ℤ u = ap (λ (z : ℤ). a *ℤ z) (omega (arith, ints)) in
    omega (arith, ints, sum, whole)

pub minus-times : (a b u : ℤ) → (a -ℤ b) *ℤ u ≡ a *ℤ u -ℤ b *ℤ u
minus-times a b u =
    let turned = *ℤ_comm (a -ℤ b) u in
    let parts = times-minus u a b in
    let first = *ℤ_comm u a in
    let second = *ℤ_comm u b in
    omega (arith, ints, turned, parts, first, second)

-- a factor of at least 1 takes nothing away
times-more : (d : ℤ) (n : ℕ) → pos 1 ≤ℤ d → pos n ≤ℤ (d *ℤ pos n)
times-more d zero least = let none = *ℤ-zero d in omega (arith, ints, none)
times-more d (suc n) least =
    let before = times-more d n least in
    let one = times_suc d n in
    omega (arith, ints, before, one, least)

-- so it can be left out on both sides
pub times-below : (d s t : ℤ) → pos 1 ≤ℤ d → (d *ℤ s) ≤ℤ (d *ℤ t) → s ≤ℤ t
times-below d s t least below = by_lt_z t s (λ less. absurd (by (s -ℤ t) refl less)) (λ most. most)
  where
    by : (z : ℤ) → s -ℤ t ≡ z → t <ℤ s → ⊥
    by (pos n) is less =
        let sum = times-plus d t (pos n) in
        let whole : d *ℤ (t +ℤ pos n) ≡ d *ℤ s = ap (λ (z : ℤ). d *ℤ z) (omega (arith, ints, is)) in
        let more = times-more d n least in
        omega (arith, ints, sum, whole, more, below, less, is)
    by (negsuc n) is less = omega (arith, ints, is, less)

pub total-plus : (f g : ℕ → ℤ) (n : ℕ) → total (λ k. f k +ℤ g k) n ≡ total f n +ℤ total g n
unfolding total
total-plus f g zero = refl
total-plus f g (suc n) = let before = total-plus f g n in omega (arith, ints, before)

pub total-same : (f g : ℕ → ℤ) (n : ℕ) → ((k : ℕ) → k < n → f k ≡ g k) → total f n ≡ total g n
unfolding total
total-same f g zero same = refl
total-same f g (suc n) same =
    let before : total f n ≡ total g n = total-same f g n (λ k below. same k (omega (arith, below))) in
    let here : f n ≡ g n = same n (omega arith) in
    omega (arith, ints, before, here)

pub total-zero : (f : ℕ → ℤ) (n : ℕ) → ((k : ℕ) → k < n → f k ≡ pos 0) → total f n ≡ pos 0
unfolding total
total-zero f zero none = refl
total-zero f (suc n) none =
    let before : total f n ≡ pos 0 = total-zero f n (λ k below. none k (omega (arith, below))) in
    let here : f n ≡ pos 0 = none n (omega arith) in
    omega (arith, ints, before, here)

pub total-minus : (f g : ℕ → ℤ) (n : ℕ) → total (λ k. f k -ℤ g k) n ≡ total f n -ℤ total g n
unfolding total
total-minus f g zero = refl
total-minus f g (suc n) = let before = total-minus f g n in omega (arith, ints, before)

-- a factor that all have
pub total-times : (a : ℤ) (f : ℕ → ℤ) (n : ℕ) → total (λ k. a *ℤ f k) n ≡ a *ℤ total f n
unfolding total
total-times a f zero = sym (*ℤ-zero a)
total-times a f (suc n) =
    let before = total-times a f n in
    let split = times-plus a (total f n) (f n) in
    omega (arith, ints, before, split)

-- the first number apart
pub total-first : (f : ℕ → ℤ) (n : ℕ) → total f (suc n) ≡ f 0 +ℤ total (λ k. f (suc k)) n
unfolding total
total-first f zero = omega (arith, ints)
total-first f (suc n) = let before = total-first f n in omega (arith, ints, before)

-- so many numbers, and then the others
pub total-split : (f : ℕ → ℤ) (m n : ℕ) → total f (m + n) ≡ total f m +ℤ total (λ k. f (m + k)) n
unfolding total
total-split f m zero =
    let none : m + 0 ≡ m = omega arith in
    let same = ap (total f) none in
    omega (arith, ints, same)
total-split f m (suc n) =
    let before = total-split f m n in
    let next : m + suc n ≡ suc (m + n) = omega arith in
    let same : total f (m + suc n) ≡ total f (m + n) +ℤ f (m + n) = ap (total f) next in
    omega (arith, ints, before, same)

pub total-most : (f g : ℕ → ℤ) (n : ℕ) → ((k : ℕ) → k < n → f k ≤ℤ g k) → total f n ≤ℤ total g n
unfolding total
total-most f g zero most = omega (arith, ints)
total-most f g (suc n) most =
    let before : total f n ≤ℤ total g n = total-most f g n (λ k below. most k (omega (arith, below))) in
    let here : f n ≤ℤ g n = most n (omega arith) in
    omega (arith, ints, before, here)

-- two sums in either order
pub total-swap : (f : ℕ → ℕ → ℤ) (m n : ℕ) → total (λ j. total (f j) n) m ≡ total (λ k. total (λ j. f j k) m) n
unfolding total
total-swap f zero n = sym (total-zero (λ k. pos 0) n (λ k below. refl))
total-swap f (suc m) n =
    let before = total-swap f m n in
    let split = total-plus (λ k. total (λ j. f j k) m) (f m) n in
    omega (arith, ints, before, split)

-- a number at one place alone
one_at : (z : ℤ) (t v : ℕ) → v ≢ t → (if v == t then z else pos 0) ≡ pos 0
one_at z t v other = ap (λ (b : Bool). if b then z else pos 0) (ne_eqb v t other)

pub total_one : (z : ℤ) (t n : ℕ) → t < n → total (λ v. if v == t then z else pos 0) n ≡ z
unfolding total
total_one z t zero inside = absurd (omega (arith, inside))
total_one z t (suc n) inside = elim (cases_eq n t) [
  | inl same ↦
      let before = total-zero (λ v. if v == t then z else pos 0) n
      (λ v below. one_at z t v (λ e. omega (arith, e, below, same))) in
      let here : (if n == t then z else pos 0) ≡ z = ap (λ (b : Bool). if b then z else pos 0) (eq-eqb n t same) in
      omega (arith, ints, before, here)
  | inr other ↦
      let before = total_one z t n (omega (arith, inside, other)) in
      let here = one_at z t n other in
      omega (arith, ints, before, here)
]

-- the same times the number of the place
pub total_at : (label : ℕ → ℤ) (z : ℤ) (t n : ℕ) → t < n
    → total (λ v. label v *ℤ (if v == t then z else pos 0)) n ≡ label t *ℤ z
total_at label z t n inside =
    total-same (λ v. label v *ℤ (if v == t then z else pos 0)) (λ v. if v == t then label t *ℤ z else pos 0) n
    (λ v below. each v) ∙ total_one (label t *ℤ z) t n inside
  where
    each : (v : ℕ) → label v *ℤ (if v == t then z else pos 0) ≡ (if v == t then label t *ℤ z else pos 0)
    each v = elim (cases_eq v t) [
      | inl same ↦ ap (λ (b : Bool). label v *ℤ (if b then z else pos 0)) (eq-eqb v t same)
          ∙ ap (λ (k : ℕ). label k *ℤ z) same
          ∙ sym (ap (λ (b : Bool). if b then label t *ℤ z else pos 0) (eq-eqb v t same))
      | inr other ↦ ap (λ (z : ℤ). label v *ℤ z) (one_at z t v other) ∙ *ℤ-zero (label v)
          ∙ sym (one_at (label t *ℤ z) t v other)
    ]
