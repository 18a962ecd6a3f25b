-- Sums of natural numbers over the numbers below n.
use Rattle.std.proofs.Common.{◌≡◌, ◌≢◌, ℕ, zero, suc, ◌+◌, ◌<◌, ◌≤◌, refl, sym, ap, ◌∙◌, subst, arith, inl, inr, cond}
use Rattle.std.proofs.lemmas.Bool.{cases_eq, eq-eqb, ne_eqb}
use Rattle.tn_firm_laws.specs.Places.{sum_to, one_at}

-- at i it is 1
pub one_at-same : (i : ℕ) → one_at i i ≡ 1
unfolding one_at
one_at-same i = ap (λ b. cond b 1 0) (eq-eqb i i refl)

-- elsewhere it is 0
pub one_at-other : (i k : ℕ) → i ≢ k → one_at i k ≡ 0
unfolding one_at
one_at-other i k different = ap (λ b. cond b 1 0) (ne_eqb i k different)

-- equal terms have equal sums
pub sum_to-same : (f g : ℕ → ℕ) (n : ℕ) → ((k : ℕ) → k < n → f k ≡ g k) → sum_to f n ≡ sum_to g n
unfolding sum_to
sum_to-same f g zero same = refl
sum_to-same f g (suc n) same =
    let before : sum_to f n ≡ sum_to g n = sum_to-same f g n (λ k h. same k (omega (arith, h))) in
    let here : f n ≡ g n = same n (omega arith) in
    omega arith

-- smaller terms have a smaller sum
pub sum_to-le : (f g : ℕ → ℕ) (n : ℕ) → ((k : ℕ) → k < n → f k ≤ g k) → sum_to f n ≤ sum_to g n
unfolding sum_to
sum_to-le f g zero below = omega arith
sum_to-le f g (suc n) below =
    let before : sum_to f n ≤ sum_to g n = sum_to-le f g n (λ k h. below k (omega (arith, h))) in
    let here : f n ≤ g n = below n (omega arith) in
    omega arith

-- where smaller terms have the same sum, they are the same terms
pub sum_to-tight : (f g : ℕ → ℕ) (n : ℕ) → ((k : ℕ) → k < n → f k ≤ g k) → sum_to g n ≤ sum_to f n → (k : ℕ) → k < n
    → f k ≡ g k
unfolding sum_to
sum_to-tight f g zero below tight k h = absurd (omega (arith, h))
sum_to-tight f g (suc n) below tight k h =
    let before : sum_to f n ≤ sum_to g n = sum_to-le f g n (λ i p. below i (omega (arith, p))) in
    let here : f n ≤ g n = below n (omega arith) in
    elim (cases_eq k n) [
      | inl e ↦ subst (λ (i : ℕ). f i ≡ g i) (sym e) (omega arith)
      | inr d ↦ sum_to-tight f g n (λ i p. below i (omega (arith, p))) (omega arith) k (omega (arith, h, d))
    ]

-- one more at one number below n is one more in the sum
pub sum_to-one : (f g : ℕ → ℕ) (i n : ℕ) → i < n → ((k : ℕ) → k < n → f k ≡ g k + one_at i k)
    → sum_to f n ≡ sum_to g n + 1
unfolding sum_to
sum_to-one f g i zero inside same = absurd (omega (arith, inside))
sum_to-one f g i (suc n) inside same =
    let here : f n ≡ g n + one_at i n = same n (omega arith) in
    elim (cases_eq i n) [
      | inl e ↦
          let before : sum_to f n ≡ sum_to g n = sum_to-same f g n (λ k h.
          same k (omega (arith, h)) ∙ let none : one_at i k ≡ 0 = one_at-other i k (omega (arith, e, h)) in
          omega (arith, none)) in
          let one : one_at i n ≡ 1 = subst (λ (k : ℕ). one_at i k ≡ 1) e (one_at-same i) in
          omega arith
      | inr d ↦
          let before : sum_to f n ≡ sum_to g n + 1 =
          sum_to-one f g i n (omega (arith, inside, d)) (λ k h. same k (omega (arith, h))) in
          let none : one_at i n ≡ 0 = one_at-other i n d in
          omega arith
    ]
