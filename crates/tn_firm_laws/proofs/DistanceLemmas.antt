-- The up and the down side of two bundles by their levels, and how far one is from the other: by how much its levels
-- are above the other's.
use Rattle.std.proofs.Common.{◌≡◌, ◌≢◌, ℕ, zero, suc, ◌+◌, ◌-◌, ◌<◌, ◌≤◌, sym, ◌∙◌, subst, arith, ◌⊎◌, inl, inr}
use Rattle.std.proofs.lemmas.Bool.{cases_eq, cases_lt}
use Rattle.tn_firm_laws.specs.Places.{sum_to, one_at, CanRise, CanFall, ArePlaces}
use Rattle.tn_firm_laws.proofs.SumLemmas.{one_at-same, one_at-other, sum_to-tight, sum_to-one}

-- some term below n of f is above that of g, or none is
pub above_or_none : (f g : ℕ → ℕ) (n : ℕ) → ((i : ℕ) × (i < n) × (g i < f i)) ⊎ ((i : ℕ) → i < n → f i ≤ g i)
above_or_none f g zero = inr (λ i h. absurd (omega (arith, h)))
above_or_none f g (suc n) = elim (above_or_none f g n) [
  | inl found ↦ inl (found.0, let p = found.1 in omega (arith, p), found.2)
  | inr none ↦ elim (cases_lt (g n) (f n)) [
    | inl here ↦ inl (n, omega arith, here)
    | inr not_here ↦ inr (λ i h. at i h (none i) not_here)
  ]
]
  where
    at : (i : ℕ) → i < suc n → (i < n → f i ≤ g i) → f n ≤ g n → f i ≤ g i
    at i h before here = elim (cases_eq i n) [
      | inl e ↦ subst (λ (k : ℕ). f k ≤ g k) (sym e) here
      | inr d ↦ before (omega (arith, h, d))
    ]

-- a place of the up side can be raised in y and lowered in x
pub up_moves : (n : ℕ) (level_of : ℕ → ℕ → ℕ) (moved : ℕ → ℕ → ℕ → ℕ) → ArePlaces n level_of moved → (x y i : ℕ)
    → level_of y i < level_of x i → CanRise n (level_of y) i × CanFall n (level_of x) i
up_moves n level_of moved are x y i up = (
  λ p. let small = are.small x i p in omega (arith, small, up),
  λ p. let small = are.small x i p in omega (arith, small, up),
)

-- a place of the up side is none of the down side
pub up_apart_down : (f g : ℕ → ℕ) (i j : ℕ) → g i < f i → f j < g j → i ≢ j
up_apart_down f g i j up down = λ e.
    let other : f i < g i = subst (λ (k : ℕ). f k < g k) (sym e) down in
    omega (arith, up, other)

-- by how much the levels of the n trades and of null are above the other's, together
unfoldable pub gap : ℕ → (ℕ → ℕ) → (ℕ → ℕ) → ℕ
gap n f g = sum_to (λ k. f k - g k) (suc n)

-- where no level is above the other's, the levels are the same, since both sum to n
pub levels_same : (n : ℕ) (level_of : ℕ → ℕ → ℕ) (moved : ℕ → ℕ → ℕ → ℕ) → ArePlaces n level_of moved → (x y : ℕ)
    → ((k : ℕ) → k < suc n → level_of x k ≤ level_of y k) → (k : ℕ) → k < suc n → level_of x k ≡ level_of y k
unfolding sum_to
levels_same n level_of moved are x y below k h =
    let first = are.total x in
    let second = are.total y in
    sum_to-tight (level_of x) (level_of y) (suc n) below (omega (arith, first, second)) k h

-- a bundle that is raised where it is too low, and lowered where it is too high, comes nearer by one
pub gap-nearer : (n : ℕ) (level_of : ℕ → ℕ → ℕ) (moved : ℕ → ℕ → ℕ → ℕ) → ArePlaces n level_of moved → (x y i j : ℕ)
    → i ≤ n → j ≤ n
    → level_of y i < level_of x i → level_of x j < level_of y j
    → gap n (level_of x) (level_of y) ≡ gap n (level_of x) (level_of (moved y i j)) + 1
unfolding gap
gap-nearer n level_of moved are x y i j i_within j_within i_up j_down =
    sum_to-one (λ k. level_of x k - level_of y k) (λ k. level_of x k - level_of (moved y i j) k) i (suc n)
    (omega (arith, i_within)) at
  where
    apart : i ≢ j
    apart = up_apart_down (level_of x) (level_of y) i j i_up j_down

    at : (k : ℕ) → k < suc n → level_of x k - level_of y k ≡ (level_of x k - level_of (moved y i j) k) + one_at i k
    at k h =
        let changed = are.levels y i j k i_within j_within apart
        (up_moves n level_of moved are x y i i_up).0 (up_moves n level_of moved are y x j j_down).1 (omega (arith, h))
        in
        elim (cases_eq k i) [
          | inl e ↦
              let above : level_of y k < level_of x k = subst (λ (m : ℕ). level_of y m < level_of x m) (sym e) i_up in
              let one : one_at i k ≡ 1 = subst (λ (m : ℕ). one_at i m ≡ 1) (sym e) (one_at-same i) in
              let none : one_at j k ≡ 0 = one_at-other j k (λ f. apart (sym (f ∙ e))) in
              omega (arith, changed, above, one, none)
          | inr d ↦
              let none : one_at i k ≡ 0 = one_at-other i k (λ e. d (sym e)) in
              elim (cases_eq k j) [
                | inl e ↦
                    let below : level_of x k < level_of y k =
                    subst (λ (m : ℕ). level_of x m < level_of y m) (sym e) j_down in
                    let one : one_at j k ≡ 1 = subst (λ (m : ℕ). one_at j m ≡ 1) (sym e) (one_at-same j) in
                    omega (arith, changed, below, one, none)
                | inr f ↦
                    let neither : one_at j k ≡ 0 = one_at-other j k (λ e. f (sym e)) in
                    omega (arith, changed, none, neither)
              ]
        ]
