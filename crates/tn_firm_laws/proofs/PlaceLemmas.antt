-- Bundles have places: what a toggle does to the levels.
use Rattle.std.proofs.Common.{◌≡◌, ◌≢◌, ℕ, zero, suc, ◌+◌, ◌-◌, ◌<◌, ◌≤◌, Bool, true, false, not, refl, sym, ap, ◌∙◌, subst, arith, inl, inr, if◌then◌else◌, cond}
use Rattle.std.proofs.lemmas.Bool.{cases_eq, cases_lt, lt-ltb, le-ltb}
use Rattle.tn_base.specs.Sets.{has, toggle}
use Rattle.tn_base.proofs.SetLemmas.{has-toggle_same, has-toggle_other, toggle-toggle, toggle_comm}
use Rattle.tn_firm_laws.specs.Places.{trade_level, null_level, level, toggle_at, move, sum_to, one_at, CanRise, CanFall, ArePlaces}
use Rattle.tn_firm_laws.proofs.SumLemmas.{one_at-same, one_at-other, sum_to-same}

-- the level at a trade
pub level-trade : (n buys x k : ℕ) → k < n → level n buys x k ≡ trade_level buys x k
unfolding level
level-trade n buys x k below = ap (λ b. cond b (trade_level buys x k) (null_level n buys x)) (lt-ltb k n below)

-- the level at null
pub level-null : (n buys x : ℕ) → level n buys x n ≡ null_level n buys x
unfolding level
level-null n buys x = ap (λ b. cond b (trade_level buys x n) (null_level n buys x)) (le-ltb n n (omega arith))

-- at a trade the trade is toggled
pub toggle_at-trade : (n x k : ℕ) → k < n → toggle_at n x k ≡ toggle x k
unfolding toggle_at
toggle_at-trade n x k below = ap (λ b. cond b (toggle x k) x) (lt-ltb k n below)

-- at null nothing is
pub toggle_at-null : (n x k : ℕ) → n ≤ k → toggle_at n x k ≡ x
unfolding toggle_at
toggle_at-null n x k above = ap (λ b. cond b (toggle x k) x) (le-ltb k n above)

-- a trade has level 0 or 1
pub trade_level-le : (buys x k : ℕ) → trade_level buys x k ≤ 1
unfolding trade_level
trade_level-le buys x k = by (has buys k) (has x k)
  where
    by : (b h : Bool) → (if b then (if h then 1 else 0) else (if h then 0 else 1)) ≤ 1
    by true true = omega arith
    by true false = omega arith
    by false true = omega arith
    by false false = omega arith

-- a toggle turns the level of its trade
pub trade_level-toggle_same : (buys x k : ℕ) → trade_level buys (toggle x k) k + trade_level buys x k ≡ 1
unfolding trade_level
trade_level-toggle_same buys x k =
    rw (has-toggle_same x k) (by (has buys k) (has x k))
  where
    by : (b h : Bool) → (if b then (if not h then 1 else 0) else (if not h then 0 else 1)) + (if b
        then (if h then 1 else 0) else (if h then 0 else 1)) ≡ 1
    by true true = refl
    by true false = refl
    by false true = refl
    by false false = refl

-- and of no other
pub trade_level-toggle_other : (buys x i k : ℕ) → k ≢ i → trade_level buys (toggle x i) k ≡ trade_level buys x k
unfolding trade_level
trade_level-toggle_other buys x i k different = rw (has-toggle_other x i k different) refl

-- null's level looks at the levels of the trades alone
null_level-same : (n buys x y : ℕ) → ((k : ℕ) → k < n → trade_level buys x k ≡ trade_level buys y k)
    → null_level n buys x ≡ null_level n buys y
unfolding null_level
null_level-same zero buys x y same = refl
null_level-same (suc n) buys x y same =
    let before : null_level n buys x ≡ null_level n buys y =
    null_level-same n buys x y (λ k h. same k (omega (arith, h))) in
    let here : trade_level buys x n ≡ trade_level buys y n = same n (omega arith) in
    rw (before, here) refl

-- what a trade's level gains by a toggle, null's loses
pub null_level-toggle : (n buys x k : ℕ) → k < n
    → null_level n buys (toggle x k) + trade_level buys (toggle x k) k ≡ null_level n buys x + trade_level buys x k
unfolding null_level
null_level-toggle zero buys x k below = absurd (omega (arith, below))
null_level-toggle (suc n) buys x k below =
    elim (cases_eq k n) [
      | inl e ↦ subst (λ (j : ℕ). null_level n buys (toggle x k) + (1 - trade_level buys (toggle x k) j)
          + trade_level buys (toggle x k) k
          ≡ null_level n buys x + (1 - trade_level buys x j) + trade_level buys x k) e (
          let before : null_level n buys (toggle x k) ≡ null_level n buys x =
          null_level-same n buys (toggle x k) x (λ i h. trade_level-toggle_other buys x k i (omega (arith, h, e))) in
          let turned = trade_level-toggle_same buys x k in
          omega (arith, before, turned))
      | inr d ↦
          let before : null_level n buys (toggle x k) + trade_level buys (toggle x k) k ≡ null_level n buys x
          + trade_level buys x k =
          null_level-toggle n buys x k (omega (arith, below, d)) in
          let other = trade_level-toggle_other buys x k n (λ e. d (sym e)) in
          omega (arith, before, other)
    ]

-- the levels of the trades and null's sum to the count of the trades
null_level-total : (n buys x : ℕ) → sum_to (trade_level buys x) n + null_level n buys x ≡ n
unfolding null_level sum_to
null_level-total zero buys x = refl
null_level-total (suc n) buys x =
    let before : sum_to (trade_level buys x) n + null_level n buys x ≡ n = null_level-total n buys x in
    let small = trade_level-le buys x n in
    omega (arith, before, small)

-- and so do the levels of the places
level-total : (n buys x : ℕ) → sum_to (level n buys x) n + level n buys x n ≡ n
level-total n buys x =
    let trades : sum_to (level n buys x) n ≡ sum_to (trade_level buys x) n =
    sum_to-same (level n buys x) (trade_level buys x) n (λ k h. level-trade n buys x k h) in
    let null = level-null n buys x in
    let all = null_level-total n buys x in
    omega (arith, trades, null, all)

-- where a trade is raised, its level rises by one, and no other trade's changes
rise-trade : (n buys x i k : ℕ) → i < n → trade_level buys x i ≡ 0
    → trade_level buys (toggle x i) k ≡ trade_level buys x k + one_at i k
rise-trade n buys x i k below low = elim (cases_eq k i) [
  | inl e ↦
      let one : one_at i k ≡ 1 = subst (λ (j : ℕ). one_at i j ≡ 1) (sym e) (one_at-same i) in
      subst (λ (j : ℕ). trade_level buys (toggle x i) j ≡ trade_level buys x j + one_at i k) (sym e)
      (let turned = trade_level-toggle_same buys x i in omega (arith, turned, low, one))
  | inr d ↦
      let none : one_at i k ≡ 0 = one_at-other i k (λ e. d (sym e)) in
      let other = trade_level-toggle_other buys x i k d in
      omega (arith, none, other)
]

-- where a trade is raised, null falls by one
rise-null : (n buys x i : ℕ) → i < n → trade_level buys x i ≡ 0
    → null_level n buys (toggle x i) + 1 ≡ null_level n buys x
rise-null n buys x i below low =
    let turned = trade_level-toggle_same buys x i in
    let kept = null_level-toggle n buys x i below in
    omega (arith, turned, kept, low)

-- where a trade is lowered, its level falls by one, and no other trade's changes
fall-trade : (n buys x j k : ℕ) → j < n → trade_level buys x j ≡ 1
    → trade_level buys (toggle x j) k + one_at j k ≡ trade_level buys x k
fall-trade n buys x j k below high = elim (cases_eq k j) [
  | inl e ↦
      let one : one_at j k ≡ 1 = subst (λ (i : ℕ). one_at j i ≡ 1) (sym e) (one_at-same j) in
      subst (λ (i : ℕ). trade_level buys (toggle x j) i + one_at j k ≡ trade_level buys x i) (sym e)
      (let turned = trade_level-toggle_same buys x j in omega (arith, turned, high, one))
  | inr d ↦
      let none : one_at j k ≡ 0 = one_at-other j k (λ e. d (sym e)) in
      let other = trade_level-toggle_other buys x j k d in
      omega (arith, none, other)
]

-- where a trade is lowered, null rises by one
fall-null : (n buys x j : ℕ) → j < n → trade_level buys x j ≡ 1
    → null_level n buys (toggle x j) ≡ null_level n buys x + 1
fall-null n buys x j below high =
    let turned = trade_level-toggle_same buys x j in
    let kept = null_level-toggle n buys x j below in
    omega (arith, turned, kept, high)

-- a move at two trades toggles both
pub move-both : (n x i j : ℕ) → i < n → j < n → move n x i j ≡ toggle (toggle x i) j
unfolding move
move-both n x i j p q = toggle_at-trade n (toggle_at n x i) j q ∙ ap (λ (y : ℕ). toggle y j) (toggle_at-trade n x i p)

-- a move from a trade to null toggles the trade alone
pub move-to_null : (n x i : ℕ) → i < n → move n x i n ≡ toggle x i
unfolding move
move-to_null n x i p = toggle_at-null n (toggle_at n x i) n (omega arith) ∙ toggle_at-trade n x i p

-- and so does one from null to a trade
pub move-from_null : (n x j : ℕ) → j < n → move n x n j ≡ toggle x j
unfolding move
move-from_null n x j q = toggle_at-trade n (toggle_at n x n) j q
    ∙ ap (λ (y : ℕ). toggle y j) (toggle_at-null n x n (omega arith))

-- toggled twice at a place, a bundle is as before
toggle_at-twice : (n x i : ℕ) → toggle_at n (toggle_at n x i) i ≡ x
toggle_at-twice n x i = elim (cases_lt i n) [
  | inl p ↦ toggle_at-trade n (toggle_at n x i) i p ∙ ap (λ (y : ℕ). toggle y i) (toggle_at-trade n x i p)
      ∙ toggle-toggle x i
  | inr p ↦ toggle_at-null n (toggle_at n x i) i p ∙ toggle_at-null n x i p
]

-- the order of two toggles doesn't matter
pub toggle_at-order : (n x i j : ℕ) → toggle_at n (toggle_at n x i) j ≡ toggle_at n (toggle_at n x j) i
toggle_at-order n x i j = elim (cases_lt i n) [
  | inl p ↦ elim (cases_lt j n) [
    | inl q ↦ toggle_at-trade n (toggle_at n x i) j q ∙ ap (λ (y : ℕ). toggle y j) (toggle_at-trade n x i p)
        ∙ toggle_comm x i j
        ∙ sym (toggle_at-trade n (toggle_at n x j) i p ∙ ap (λ (y : ℕ). toggle y i) (toggle_at-trade n x j q))
    | inr q ↦ toggle_at-null n (toggle_at n x i) j q ∙ ap (λ (y : ℕ). toggle_at n y i) (sym (toggle_at-null n x j q))
  ]
  | inr p ↦ ap (λ (y : ℕ). toggle_at n y j) (toggle_at-null n x i p) ∙ sym (toggle_at-null n (toggle_at n x j) i p)
]

-- the levels of a moved bundle, from those of its trades and of null
level-moved : (n buys x moved i j : ℕ) → ((k : ℕ) → k < n
    → trade_level buys moved k + one_at j k ≡ trade_level buys x k + one_at i k)
    → null_level n buys moved + one_at j n ≡ null_level n buys x + one_at i n
    → (k : ℕ) → k ≤ n → level n buys moved k + one_at j k ≡ level n buys x k + one_at i k
level-moved n buys x moved i j trades null k within = elim (cases_eq k n) [
  | inl e ↦ subst (λ (m : ℕ). level n buys moved m + one_at j m ≡ level n buys x m + one_at i m) (sym e)
      (let new = level-null n buys moved in let old = level-null n buys x in omega (arith, new, old, null))
  | inr d ↦
      let below : k < n = omega (arith, within, d) in
      let new = level-trade n buys moved k below in
      let old = level-trade n buys x k below in
      let here = trades k below in
      omega (arith, new, old, here)
]

-- what a move does to the level of a place
move-level : (n buys x i j k : ℕ) → i ≤ n → j ≤ n → i ≢ j → CanRise n (level n buys x) i → CanFall n (level n buys x) j
    → k ≤ n
    → level n buys (move n x i j) k + one_at j k ≡ level n buys x k + one_at i k
move-level n buys x i j k i_within j_within different rise fall k_within = elim (cases_lt i n) [
  | inl p ↦
      let low : trade_level buys x i ≡ 0 = sym (level-trade n buys x i p) ∙ rise p in
      let not_null : one_at i n ≡ 0 = one_at-other i n (λ e. omega (arith, p, e)) in
      elim (cases_lt j n) [
        | inl q ↦
            let high : trade_level buys (toggle x i) j ≡ 1 =
            trade_level-toggle_other buys x i j (λ e. different (sym e)) ∙ sym (level-trade n buys x j q) ∙ fall q in
            let neither : one_at j n ≡ 0 = one_at-other j n (λ e. omega (arith, q, e)) in
            subst (λ (y : ℕ). level n buys y k + one_at j k ≡ level n buys x k + one_at i k)
            (sym (move-both n x i j p q))
            (level-moved n buys x (toggle (toggle x i) j) i j
            (λ m h. let up = rise-trade n buys x i m p low in let down = fall-trade n buys (toggle x i) j m q high in
            omega (arith, up, down))
            (let up = rise-null n buys x i p low in let down = fall-null n buys (toggle x i) j q high in
            omega (arith, up, down, not_null, neither))
            k k_within)
        | inr q ↦
            let e : j ≡ n = omega (arith, j_within, q) in
            subst (λ (m : ℕ). level n buys (move n x i m) k + one_at m k ≡ level n buys x k + one_at i k) (sym e)
            (subst (λ (y : ℕ). level n buys y k + one_at n k ≡ level n buys x k + one_at i k)
            (sym (move-to_null n x i p))
            (level-moved n buys x (toggle x i) i n
            (λ m h. let up = rise-trade n buys x i m p low in let none = one_at-other n m (λ f. omega (arith, f, h)) in
            omega (arith, up, none))
            (let up = rise-null n buys x i p low in let one = one_at-same n in omega (arith, up, one, not_null))
            k k_within))
      ]
  | inr p ↦
      let e : i ≡ n = omega (arith, i_within, p) in
      let q : j < n = omega (arith, j_within, e, different) in
      let high : trade_level buys x j ≡ 1 = sym (level-trade n buys x j q) ∙ fall q in
      let neither : one_at j n ≡ 0 = one_at-other j n (λ f. omega (arith, q, f)) in
      subst (λ (m : ℕ). level n buys (move n x m j) k + one_at j k ≡ level n buys x k + one_at m k) (sym e)
      (subst (λ (y : ℕ). level n buys y k + one_at j k ≡ level n buys x k + one_at n k) (sym (move-from_null n x j q))
      (level-moved n buys x (toggle x j) n j
      (λ m h. let down = fall-trade n buys x j m q high in let none = one_at-other n m (λ f. omega (arith, f, h)) in
      omega (arith, down, none))
      (let down = fall-null n buys x j q high in let one = one_at-same n in omega (arith, down, one, neither))
      k k_within))
]

-- bundles have places
pub places : (n buys : ℕ) → ArePlaces n (level n buys) (move n)
unfolding move
places n buys = record {
  order = λ x i j. toggle_at-order n x i j;
  same = λ x i. toggle_at-twice n x i;
  through = λ x i j k. ap (λ (y : ℕ). toggle_at n y k) (toggle_at-twice n (toggle_at n x i) j);
  levels = λ x i j k. move-level n buys x i j k;
  small = λ x k below. subst (λ (l : ℕ). l ≤ 1) (sym (level-trade n buys x k below)) (trade_level-le buys x k);
  total = λ x. level-total n buys x;
}
