-- Sums over a set.
use Rattle.std.proofs.Common.{◌≡◌, ℕ, zero, suc, ◌+◌, ◌-◌, ◌^◌, ◌<◌, ◌≤◌, Bool, true, false, not, refl, sym, ap, ◌∙◌, subst, arith, inl, inr, if◌then◌else◌, pos, ◌+ℤ◌, ◌-ℤ◌}
use Rattle.std.specs.Prelude.{ℤ, neg_ℤ, ◌*ℤ◌}
use Rattle.std.proofs.Math.IntN.{ℤ_ind, +ℤ_one, -ℤ_one, zero-*ℤ, *ℤ-zero, suc_ℤ-*ℤ, pred_ℤ-*ℤ}
use Rattle.std.proofs.lemmas.Int.{ints}
use Rattle.std.proofs.lemmas.Bool.{cases_eq}
use Rattle.tn_base.specs.Sets.{has, toggle, sum_over}
use Rattle.tn_base.proofs.SetLemmas.{has-zero, has_above, has-toggle_same, has-toggle_other, toggle-toggle}

-- one term, if it counts
abbrev term : Bool → ℤ → ℤ
term b z = if b then z else pos 0

-- nothing sums to 0
pub sum_over-empty : (c : ℕ → ℤ) (n : ℕ) → sum_over c n 0 ≡ pos 0
unfolding sum_over
sum_over-empty c zero = refl
sum_over-empty c (suc n) =
    let rest = sum_over-empty c n in
    let here : term (has 0 n) (c n) ≡ pos 0 = ap (λ b. term b (c n)) (has-zero n) in
    omega (arith, ints, rest, here)

-- sets with the same members below n have the same sum
pub sum_over-same : (c : ℕ → ℤ) (x y n : ℕ) → ((k : ℕ) → k < n → has x k ≡ has y k) → sum_over c n x ≡ sum_over c n y
unfolding sum_over
sum_over-same c x y zero same = refl
sum_over-same c x y (suc n) same =
    let rest : sum_over c n x ≡ sum_over c n y = sum_over-same c x y n (λ k h. same k (omega (arith, h))) in
    let here : term (has x n) (c n) ≡ term (has y n) (c n) = ap (λ b. term b (c n)) (same n (omega arith)) in
    omega (arith, ints, rest, here)

-- only the terms of members below n count
pub sum_over-same_terms : (c d : ℕ → ℤ) (x n : ℕ) → ((k : ℕ) → k < n → has x k ≡ true → c k ≡ d k)
    → sum_over c n x ≡ sum_over d n x
unfolding sum_over
sum_over-same_terms c d x zero same = refl
sum_over-same_terms c d x (suc n) same =
    let rest : sum_over c n x ≡ sum_over d n x = sum_over-same_terms c d x n (λ k h. same k (omega (arith, h))) in
    let here : term (has x n) (c n) ≡ term (has x n) (d n) = counted (has x n) (c n) (d n) (same n (omega arith)) in
    omega (arith, ints, rest, here)
  where
    counted : (b : Bool) (u v : ℤ) → (b ≡ true → u ≡ v) → term b u ≡ term b v
    counted true u v h = h refl
    counted false u v h = refl

-- nothing stands above a set of numbers below n
all_above : (c : ℕ → ℤ) (x n d : ℕ) → x < 2 ^ n → sum_over c (n + d) x ≡ sum_over c n x
unfolding sum_over
all_above c x n zero below = let e : n + 0 ≡ n = omega arith in ap (λ (k : ℕ). sum_over c k x) e
all_above c x n (suc d) below =
    let rest : sum_over c (n + d) x ≡ sum_over c n x = all_above c x n d below in
    let here : term (has x (n + d)) (c (n + d)) ≡ pos 0 =
    ap (λ b. term b (c (n + d))) (has_above x n (n + d) below (omega arith)) in
    let step : sum_over c (suc (n + d)) x ≡ sum_over c n x = omega (arith, ints, rest, here) in
    let e : n + suc d ≡ suc (n + d) = omega arith in
    ap (λ (k : ℕ). sum_over c k x) e ∙ step

-- a set of numbers below n may be summed up to n, or to any number above
pub sum_over-above : (c : ℕ → ℤ) (x n m : ℕ) → x < 2 ^ n → n ≤ m → sum_over c m x ≡ sum_over c n x
sum_over-above c x n m below above =
    let e : n + (m - n) ≡ m = omega (arith, above) in
    subst (λ (k : ℕ). sum_over c k x ≡ sum_over c n x) e (all_above c x n (m - n) below)

-- what is toggled at n or above doesn't count
pub sum_over-toggle_above : (c : ℕ → ℤ) (n x i : ℕ) → n ≤ i → sum_over c n (toggle x i) ≡ sum_over c n x
sum_over-toggle_above c n x i above = sum_over-same c _ _ n (λ k h. has-toggle_other x i k (omega (arith, h, above)))

-- with i moved in, the sum has the term at i more
pub sum_over-toggle_in : (c : ℕ → ℤ) (n x i : ℕ) → i < n → has x i ≡ false
    → sum_over c n (toggle x i) ≡ sum_over c n x +ℤ c i
unfolding sum_over
sum_over-toggle_in c zero x i below absent = absurd (omega (arith, below))
sum_over-toggle_in c (suc n) x i below absent =
    elim (cases_eq i n) [
      | inl e ↦
          let rest : sum_over c n (toggle x i) ≡ sum_over c n x = sum_over-toggle_above c n x i (omega (arith, e)) in
          let new : term (has (toggle x i) n) (c n) ≡ c i =
          subst (λ (k : ℕ). term (has (toggle x i) k) (c k) ≡ c i) e
          (ap (λ b. term b (c i)) (has-toggle_same x i ∙ ap not absent)) in
          let old : term (has x n) (c n) ≡ pos 0 =
          subst (λ (k : ℕ). term (has x k) (c k) ≡ pos 0) e (ap (λ b. term b (c i)) absent) in
          omega (arith, ints, rest, new, old)
      | inr d ↦
          let rest : sum_over c n (toggle x i) ≡ sum_over c n x +ℤ c i =
          sum_over-toggle_in c n x i (omega (arith, below, d)) absent in
          let here : term (has (toggle x i) n) (c n) ≡ term (has x n) (c n) =
          ap (λ b. term b (c n)) (has-toggle_other x i n (λ e. d (sym e))) in
          omega (arith, ints, rest, here)
    ]

-- with i moved out, the sum has the term at i less
pub sum_over-toggle_out : (c : ℕ → ℤ) (n x i : ℕ) → i < n → has x i ≡ true
    → sum_over c n (toggle x i) ≡ sum_over c n x -ℤ c i
sum_over-toggle_out c n x i below present =
    let back = sum_over-toggle_in c n (toggle x i) i below (has-toggle_same x i ∙ ap not present) in
    let same : sum_over c n (toggle (toggle x i) i) ≡ sum_over c n x = ap (sum_over c n) (toggle-toggle x i) in
    omega (arith, ints, back, same)

-- a sum of sums, term by term
pub sum_over-plus : (c d : ℕ → ℤ) (n x : ℕ) → sum_over (λ k. c k +ℤ d k) n x ≡ sum_over c n x +ℤ sum_over d n x
unfolding sum_over
sum_over-plus c d zero x = refl
sum_over-plus c d (suc n) x =
    let rest : sum_over (λ k. c k +ℤ d k) n x ≡ sum_over c n x +ℤ sum_over d n x = sum_over-plus c d n x in
    let here : term (has x n) (c n +ℤ d n) ≡ term (has x n) (c n) +ℤ term (has x n) (d n) = split (has x n) (c n) (d n)
    in
    omega (arith, ints, rest, here)
  where
    split : (b : Bool) (u v : ℤ) → term b (u +ℤ v) ≡ term b u +ℤ term b v
    split true u v = refl
    split false u v = refl

-- a multiple of a sum
pub times-plus : (a u v : ℤ) → a *ℤ (u +ℤ v) ≡ a *ℤ u +ℤ a *ℤ v
times-plus a u v = ℤ_ind (λ m. m *ℤ (u +ℤ v) ≡ m *ℤ u +ℤ m *ℤ v) none (λ n. more (pos n)) (λ n. less (neg_ℤ (pos n))) a
  where
    none : pos 0 *ℤ (u +ℤ v) ≡ pos 0 *ℤ u +ℤ pos 0 *ℤ v
    none = omega (arith, ints, zero-*ℤ (u +ℤ v), zero-*ℤ u, zero-*ℤ v)

    one_more : (m w : ℤ) → (m +ℤ pos 1) *ℤ w ≡ m *ℤ w +ℤ w
    one_more m w = ap (λ (z : ℤ). z *ℤ w) (+ℤ_one m) ∙ suc_ℤ-*ℤ m w

    one_less : (m w : ℤ) → (m -ℤ pos 1) *ℤ w ≡ m *ℤ w -ℤ w
    one_less m w = ap (λ (z : ℤ). z *ℤ w) (-ℤ_one m) ∙ pred_ℤ-*ℤ m w

    more : (m : ℤ) → m *ℤ (u +ℤ v) ≡ m *ℤ u +ℤ m *ℤ v → (m +ℤ pos 1) *ℤ (u +ℤ v) ≡ (m +ℤ pos 1) *ℤ u
        +ℤ (m +ℤ pos 1) *ℤ v
    more m h = omega (arith, ints, h, one_more m (u +ℤ v), one_more m u, one_more m v)

    less : (m : ℤ) → m *ℤ (u +ℤ v) ≡ m *ℤ u +ℤ m *ℤ v → (m -ℤ pos 1) *ℤ (u +ℤ v) ≡ (m -ℤ pos 1) *ℤ u
        +ℤ (m -ℤ pos 1) *ℤ v
    less m h = omega (arith, ints, h, one_less m (u +ℤ v), one_less m u, one_less m v)

-- the sum of a multiple of the terms
pub sum_over-times : (a : ℤ) (c : ℕ → ℤ) (n x : ℕ) → sum_over (λ k. a *ℤ c k) n x ≡ a *ℤ sum_over c n x
unfolding sum_over
sum_over-times a c zero x = sym (*ℤ-zero a)
sum_over-times a c (suc n) x =
    ap (λ (z : ℤ). z +ℤ term (has x n) (a *ℤ c n)) (sum_over-times a c n x) ∙
    ap (λ (z : ℤ). a *ℤ sum_over c n x +ℤ z) (times_term (has x n) (c n)) ∙
    sym (times-plus a (sum_over c n x) (term (has x n) (c n)))
  where
    times_term : (b : Bool) (u : ℤ) → term b (a *ℤ u) ≡ a *ℤ term b u
    times_term true u = refl
    times_term false u = sym (*ℤ-zero a)
