-- Exchange between close bundles gives exchange between all, over places: by recursion on how far two bundles are
-- apart.
use Rattle.std.proofs.Common.{◌≡◌, ◌≢◌, ℕ, zero, suc, ◌+◌, ◌-◌, ◌^◌, ◌<◌, ◌≤◌, true, refl, sym, ap, ◌∙◌, subst, arith, ◌⊎◌, inl, inr, ℤ, ◌+ℤ◌}
use Rattle.std.specs.Prelude.{◌≤ℤ◌, ◌<ℤ◌, Option, Some, None, is_some}
use Rattle.std.proofs.lemmas.Bool.{cases_eq, cases_lt, false≢true}
use Rattle.std.proofs.lemmas.Int.{ints, by_lt_z}
use Rattle.tn_base.specs.Firm.{Firm}
use Rattle.tn_base.specs.Every.{HasEveryBundle}
use Rattle.tn_base.proofs.SetLemmas.{toggle_within}
use Rattle.tn_firm_laws.specs.Places.{level, move, toggle_at, sum_to, one_at}
use Rattle.tn_firm_laws.specs.Quads.{number, value}
use Rattle.tn_firm_laws.proofs.SumLemmas.{sum_to-le, sum_to-one}
use Rattle.tn_firm_laws.proofs.PlaceLemmas.{places, toggle_at-trade, toggle_at-null}
use Rattle.tn_firm_laws.proofs.DistanceLemmas.{above_or_none, gap, levels_same, gap-nearer}
use Rattle.tn_firm_laws.proofs.LocalLemmas.{same_from_levels}

-- what two functions lose to each other is what their sums differ by
pub sum_to-differences : (f g : ℕ → ℕ) (m : ℕ) → sum_to f m + sum_to (λ k. g k - f k) m ≡ sum_to g m
    + sum_to (λ k. f k - g k) m
unfolding sum_to
sum_to-differences f g zero = refl
sum_to-differences f g (suc m) =
    let before : sum_to f m + sum_to (λ k. g k - f k) m ≡ sum_to g m + sum_to (λ k. f k - g k) m =
    sum_to-differences f g m in
    omega (arith, before)

-- no terms, no sum
sum_to-nothing : (m : ℕ) → sum_to (λ k. 0) m ≡ 0
unfolding sum_to
sum_to-nothing zero = refl
sum_to-nothing (suc m) = let before : sum_to (λ k. 0) m ≡ 0 = sum_to-nothing m in omega (arith, before)

-- no sum, no terms
sum_to-zero : (f : ℕ → ℕ) (m : ℕ) → sum_to f m ≡ 0 → (k : ℕ) → k < m → f k ≡ 0
unfolding sum_to
sum_to-zero f zero none k h = absurd (omega (arith, h))
sum_to-zero f (suc m) none k h = elim (cases_eq k m) [
  | inl e ↦ subst (λ (i : ℕ). f i ≡ 0) (sym e) (omega (arith, none))
  | inr d ↦ sum_to-zero f m (omega (arith, none)) k (omega (arith, h, d))
]

-- a function with 1 at one number alone has the sum 1
pub sum_to-single : (u m : ℕ) → u < m → sum_to (one_at u) m ≡ 1
sum_to-single u m inside =
    let step = sum_to-one (one_at u) (λ k. 0) u m inside (λ k h. omega arith) in
    let nothing = sum_to-nothing m in
    omega (arith, step, nothing)

-- how far a bundle is above another
abbrev pub gap_in : Firm → ℕ → ℕ → ℕ
gap_in firm x y = gap firm.count (level firm.count firm.buys x) (level firm.count firm.buys y)

-- it is as far above the other as the other above it
pub gap-symmetric : (firm : Firm) (x y : ℕ) → gap_in firm x y ≡ gap_in firm y x
unfolding gap sum_to
gap-symmetric firm x y =
    let differ = sum_to-differences (level firm.count firm.buys x) (level firm.count firm.buys y) (suc firm.count) in
    let first = (places firm.count firm.buys).total x in
    let second = (places firm.count firm.buys).total y in
    omega (arith, differ, first, second)

-- bundles that aren't apart are the same
pub same_from_gap : (firm : Firm) (x y : ℕ) → x < 2 ^ firm.count → y < 2 ^ firm.count → gap_in firm x y ≡ 0 → x ≡ y
unfolding gap
same_from_gap firm x y x_own y_own none =
    same_from_levels firm.count firm.buys x y x_own y_own (λ k h.
    levels_same firm.count (level firm.count firm.buys) (move firm.count) (places firm.count firm.buys) x y below k
    (omega (arith, h)))
  where
    below : (k : ℕ) → k < suc firm.count → level firm.count firm.buys x k ≤ level firm.count firm.buys y k
    below k h =
        let here : level firm.count firm.buys x k - level firm.count firm.buys y k ≡ 0 =
        sum_to-zero (λ i. level firm.count firm.buys x i - level firm.count firm.buys y i) (suc firm.count) none k h in
        omega (arith, here)

-- a bundle toggled at a place is one of own positions
toggle_at-within : (n x k : ℕ) → x < 2 ^ n → toggle_at n x k < 2 ^ n
toggle_at-within n x k own = elim (cases_lt k n) [
  | inl p ↦ subst (λ (y : ℕ). y < 2 ^ n) (sym (toggle_at-trade n x k p)) (toggle_within x k n own p)
  | inr p ↦ subst (λ (y : ℕ). y < 2 ^ n) (sym (toggle_at-null n x k p)) own
]

pub move-within : (n x i j : ℕ) → x < 2 ^ n → move n x i j < 2 ^ n
unfolding move
move-within n x i j own = toggle_at-within n (toggle_at n x i) j (toggle_at-within n x i own)

-- what a possible bundle is worth
pub value_is : (firm : Firm) → HasEveryBundle firm → (x : ℕ) → x < 2 ^ firm.count → firm.worth x ≡ Some (value firm x)
unfolding value
value_is firm every x own = by (firm.worth x) (every x own)
  where
    by : (o : Option ℤ) → is_some o ≡ true → o ≡ Some (number o)
    by (Some a) e = refl
    by None e = absurd (false≢true e)

-- place i, of the up side, exchanges with a place of the down side
pub record Moves (firm : Firm) (x y i : ℕ) : Type 0 where
  pub at : ℕ
  pub is_place : at ≤ firm.count
  pub is_down : level firm.count firm.buys x at < level firm.count firm.buys y at
  pub enough : (value firm x +ℤ value firm y) ≤ℤ (value firm (move firm.count x i at)
      +ℤ value firm (move firm.count y i at))

-- with each place of the down side, less is left
abbrev pub Loses : Firm → ℕ → ℕ → ℕ → ℕ → Type 0
Loses firm x y i j = level firm.count firm.buys x j < level firm.count firm.buys y j
    → (value firm (move firm.count x i j) +ℤ value firm (move firm.count y i j)) <ℤ (value firm x +ℤ value firm y)

-- one of the two
pub moves_or_loses : (firm : Firm) (x y i m : ℕ) → m ≤ suc firm.count → Moves firm x y i
    ⊎ ((j : ℕ) → j < m → Loses firm x y i j)
moves_or_loses firm x y i zero within = inr (λ j h. absurd (omega (arith, h)))
moves_or_loses firm x y i (suc m) within = elim (moves_or_loses firm x y i m (omega (arith, within))) [
  | inl found ↦ inl found
  | inr none ↦ elim (cases_lt (level firm.count firm.buys x m) (level firm.count firm.buys y m)) [
    | inr not_down ↦ inr (λ j h. more j h none (λ down. absurd (omega (arith, down, not_down))))
    | inl down ↦ by_lt_z {P = Moves firm x y i ⊎ ((j : ℕ) → j < suc m → Loses firm x y i j)}
        (value firm (move firm.count x i m) +ℤ value firm (move firm.count y i m)) (value firm x +ℤ value firm y)
        (λ less. inr (λ j h. more j h none (λ down. less)))
        (λ most. inl (record { at = m; is_place = omega (arith, within); is_down = down; enough = most }))
  ]
]
  where
    more : (j : ℕ) → j < suc m → ((k : ℕ) → k < m → Loses firm x y i k) → Loses firm x y i m → Loses firm x y i j
    more j h none here = elim (cases_eq j m) [
      | inl e ↦ subst (Loses firm x y i) (sym e) here
      | inr d ↦ none j (omega (arith, h, d))
    ]

-- of the numbers below m at which g is below h, this one has the greatest value
record IsGreatest (g h : ℕ → ℕ) (f : ℕ → ℤ) (m at : ℕ) : Type 0 where
  below : at < m
  is : g at < h at
  most : (k : ℕ) → k < m → g k < h k → f k ≤ℤ f at

greatest_or_none : (g h : ℕ → ℕ) (f : ℕ → ℤ) (m : ℕ) → ((at : ℕ) × IsGreatest g h f m at)
    ⊎ ((k : ℕ) → k < m → h k ≤ g k)
greatest_or_none g h f zero = inr (λ k p. absurd (omega (arith, p)))
greatest_or_none g h f (suc m) = elim (cases_lt (g m) (h m)) [
  | inr not_here ↦ elim (greatest_or_none g h f m) [
    | inr none ↦ inr (λ k p. elim (cases_eq k m) [
      | inl e ↦ subst (λ (i : ℕ). h i ≤ g i) (sym e) not_here
      | inr d ↦ none k (omega (arith, p, d))
    ])
    | inl found ↦ inl (found.0, keep found.0 found.1 (λ below. absurd (omega (arith, below, not_here))))
  ]
  | inl here ↦ elim (greatest_or_none g h f m) [
    | inr none ↦ inl (
      m,
      record {
        below = omega arith;
        is = here;
        most = λ k p is. elim (cases_eq k m) [
          | inl e ↦ subst (λ (i : ℕ). f i ≤ℤ f m) (sym e) (omega (arith, ints))
          | inr d ↦ let not_k = none k (omega (arith, p, d)) in absurd (omega (arith, not_k, is))
        ];
      },
    )
    | inl found ↦ by_lt_z {P = ((at : ℕ) × IsGreatest g h f (suc m) at)
        ⊎ ((k : ℕ) → k < suc m → h k ≤ g k)} (f found.0) (f m)
        (λ less. inl (
          m,
          record {
            below = omega arith;
            is = here;
            most = λ k p is. elim (cases_eq k m) [
              | inl e ↦ subst (λ (i : ℕ). f i ≤ℤ f m) (sym e) (omega (arith, ints))
              | inr d ↦ let old = found.1.most k (omega (arith, p, d)) is in omega (arith, ints, old, less)
            ];
          },
        ))
        (λ most. inl (found.0, keep found.0 found.1 (λ below. most)))
  ]
]
  where
    keep : (at : ℕ) → IsGreatest g h f m at → (g m < h m → f m ≤ℤ f at) → IsGreatest g h f (suc m) at
    keep at old last = record {
      below = (let below = old.below in omega (arith, below));
      is = old.is;
      most = λ k p is. elim (cases_eq k m) [
        | inl e ↦ subst (λ (i : ℕ). f i ≤ℤ f at) (sym e) (last (subst (λ (i : ℕ). g i < h i) e is))
        | inr d ↦ old.most k (omega (arith, p, d)) is
      ];
    }

-- exchange between the bundles that are this far apart
abbrev pub ExchangesAt : Firm → ℕ → Type 0
ExchangesAt firm d = (x y i : ℕ) → x < 2 ^ firm.count → y < 2 ^ firm.count → i ≤ firm.count
    → level firm.count firm.buys y i < level firm.count firm.buys x i
    → gap firm.count (level firm.count firm.buys x) (level firm.count firm.buys y) ≡ d
    → Moves firm x y i

-- bundles at the least distance change places
pub exchanges_at_one : (firm : Firm) → ExchangesAt firm 1
exchanges_at_one firm x y i x_own y_own i_place i_up near =
    elim (above_or_none (level firm.count firm.buys y) (level firm.count firm.buys x) (suc firm.count)) [
      | inr none ↦
          let same = levels_same firm.count (level firm.count firm.buys) (move firm.count) (places firm.count firm.buys)
          y x none i (omega (arith, i_place)) in
          absurd (omega (arith, same, i_up))
      | inl found ↦
          let j_place : found.0 ≤ firm.count = (let p = found.1 in omega (arith, p)) in
          let are = places firm.count firm.buys in
          let first = gap-nearer firm.count (level firm.count firm.buys) (move firm.count) are x y i found.0 i_place
          j_place i_up found.2 in
          let second =
          gap-nearer firm.count (level firm.count firm.buys) (move firm.count) are y x found.0 i j_place i_place
          found.2 i_up in
          let turned = gap-symmetric firm x y in
          let becomes_x : x ≡ move firm.count y i found.0 =
          same_from_gap firm x (move firm.count y i found.0) x_own (move-within firm.count y i found.0 y_own)
          (omega (arith, first, near)) in
          let becomes_y : y ≡ move firm.count x found.0 i =
          same_from_gap firm y (move firm.count x found.0 i) y_own (move-within firm.count x found.0 i x_own)
          (omega (arith, second, near, turned)) in
          let value_x : value firm x ≡ value firm (move firm.count y i found.0) = ap (value firm) becomes_x in
          let value_y : value firm y ≡ value firm (move firm.count x i found.0) =
          ap (value firm) (becomes_y ∙ are.order x found.0 i) in
          record { at = found.0; is_place = j_place; is_down = found.2; enough = omega (arith, ints, value_x, value_y) }
    ]

-- two bundles further apart than close ones, where place u doesn't exchange
pub record DoesNotExchange (firm : Firm) (d x y u : ℕ) : Type 0 where
  pub x_own : x < 2 ^ firm.count
  pub y_own : y < 2 ^ firm.count
  pub u_place : u ≤ firm.count
  pub u_up : level firm.count firm.buys y u < level firm.count firm.buys x u
  pub far : gap firm.count (level firm.count firm.buys x) (level firm.count firm.buys y) ≡ suc d
  pub loses : (j : ℕ) → j < suc firm.count → Loses firm x y u j

-- one more unit of the up side, at the place up, and the place of the down side that is best beside it
pub record Chosen (firm : Firm) (x y u up down : ℕ) : Type 0 where
  pub up_place : up ≤ firm.count
  pub is_up : level firm.count firm.buys y up + one_at u up < level firm.count firm.buys x up
  pub down_place : down ≤ firm.count
  pub is_down : level firm.count firm.buys x down < level firm.count firm.buys y down
  pub most : (k : ℕ) → k < suc firm.count → level firm.count firm.buys x k < level firm.count firm.buys y k
      → (value firm (move firm.count y up k) +ℤ value firm (move firm.count x u k))
      ≤ℤ (value firm (move firm.count y up down) +ℤ value firm (move firm.count x u down))

-- beside one unit of u the up side has another one
pub unit_beside : (firm : Firm) (d x y u : ℕ) → 1 ≤ d → u ≤ firm.count
    → gap firm.count (level firm.count firm.buys x) (level firm.count firm.buys y) ≡ suc d
    → (up : ℕ) × (up < suc firm.count)
    × (level firm.count firm.buys y up + one_at u up < level firm.count firm.buys x up)
unfolding gap
unit_beside firm d x y u far u_place apart =
    elim (above_or_none (level firm.count firm.buys x) (λ k. level firm.count firm.buys y k + one_at u k)
    (suc firm.count)) [
      | inl found ↦ found
      | inr none ↦
          let single = sum_to-single u (suc firm.count) (omega (arith, u_place)) in
          let small = sum_to-le (λ k. level firm.count firm.buys x k - level firm.count firm.buys y k) (one_at u)
          (suc firm.count)
          (λ k h. let at_k = none k h in omega (arith, at_k)) in
          absurd (omega (arith, single, small, apart, far))
    ]

pub chosen : (firm : Firm) (d x y u : ℕ) → 1 ≤ d → DoesNotExchange firm d x y u → (up : ℕ)
    × ((down : ℕ) × Chosen firm x y u up down)
chosen firm d x y u far here =
    let other = unit_beside firm d x y u far here.u_place here.far in
    elim (greatest_or_none (level firm.count firm.buys x) (level firm.count firm.buys y)
    (λ k. value firm (move firm.count y other.0 k) +ℤ value firm (move firm.count x u k)) (suc firm.count)) [
      | inl best ↦ (
        other.0,
        (
          best.0,
          record {
            up_place = (let p = other.1 in omega (arith, p));
            is_up = other.2;
            down_place = (let p = best.1.below in omega (arith, p));
            is_down = best.1.is;
            most = best.1.most;
          },
        ),
      )
      | inr none ↦
          let u_place = here.u_place in
          let u_up = here.u_up in
          let same = levels_same firm.count (level firm.count firm.buys) (move firm.count) (places firm.count firm.buys)
          y x none u (omega (arith, u_place)) in
          absurd (omega (arith, same, u_up))
    ]

-- no bundle is apart from itself
pub gap-itself : (firm : Firm) (x : ℕ) → gap firm.count (level firm.count firm.buys x) (level firm.count firm.buys x)
    ≡ 0
unfolding gap sum_to
gap-itself firm x = nothing (level firm.count firm.buys x) (suc firm.count)
  where
    nothing : (f : ℕ → ℕ) (m : ℕ) → sum_to (λ k. f k - f k) m ≡ 0
    nothing f zero = refl
    nothing f (suc m) = let before : sum_to (λ k. f k - f k) m ≡ 0 = nothing f m in omega (arith, before)

-- bundles that aren't apart have no up side
pub gap-positive : (firm : Firm) (x y i : ℕ) → i ≤ firm.count
    → level firm.count firm.buys y i < level firm.count firm.buys x i
    → gap firm.count (level firm.count firm.buys x) (level firm.count firm.buys y) ≢ 0
unfolding gap
gap-positive firm x y i place up none =
    let here = sum_to-zero (λ k. level firm.count firm.buys x k - level firm.count firm.buys y k) (suc firm.count) none
    i (omega (arith, place)) in
    absurd (omega (arith, here, up))
