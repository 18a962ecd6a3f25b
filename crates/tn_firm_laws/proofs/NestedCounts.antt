-- The net count of a bundle within a set, by levels: so toggles at two places move it by at most 1.
use Rattle.std.proofs.Common.{◌≡◌, ◌≢◌, ℕ, zero, suc, ◌+◌, ◌^◌, ◌<◌, ◌≤◌, Bool, true, false, not, ◌&&◌, refl, ap, ◌∙◌, subst, arith, inl, inr, if◌then◌else◌, ℤ, pos, ◌+ℤ◌, ◌-ℤ◌}
use Rattle.std.proofs.lemmas.Bool.{cases_eq}
use Rattle.std.proofs.lemmas.Int.{ints}
use Rattle.tn_base.specs.Sets.{has, meet, minus, size_below, sum_over}
use Rattle.tn_base.specs.Firm.{net}
use Rattle.tn_base.proofs.SetLemmas.{has-meet, has-minus, meet_within}
use Rattle.tn_base.proofs.SumLemmas.{sum_over-same_terms, sum_over-above, sum_over-plus}
use Rattle.tn_base.proofs.FirmLemmas.{net_at}
use Rattle.tn_firm_laws.specs.Places.{trade_level, level, move, one_at, CanRise, CanFall}
use Rattle.tn_firm_laws.proofs.SumLemmas.{one_at-same, one_at-other}
use Rattle.tn_firm_laws.proofs.PlaceLemmas.{level-trade, places}
use Rattle.tn_firm_laws.proofs.AdditiveLemmas.{move-within}

-- 1 for a member, else 0
abbrev pub member_count : ℕ → ℕ → ℤ
member_count q k = if has q k then pos 1 else pos 0

-- the sum of the levels at the members of a set of places
unfoldable pub level_sum : ℕ → ℕ → ℕ → ℕ → ℤ
level_sum n buys x q = sum_over (λ k. pos (level n buys x k)) (suc n) q

-- how many sales a set has below n
unfoldable pub sale_count : ℕ → ℕ → ℕ → ℤ
sale_count n buys q = sum_over (λ k. if has buys k then pos 0 else pos 1) n q

-- purchases in the bundle less sales in it are levels less sales
net-trade_levels : (n buys x q : ℕ)
    → (pos (size_below n (meet (meet x q) buys)) -ℤ pos (size_below n (minus (meet x q) buys))) +ℤ sale_count n buys q
    ≡ sum_over (λ k. pos (trade_level buys x k)) n q
unfolding size_below sum_over sale_count trade_level
net-trade_levels zero buys x q = refl
net-trade_levels (suc n) buys x q =
    let before : (pos (size_below n (meet (meet x q) buys)) -ℤ pos (size_below n (minus (meet x q) buys)))
    +ℤ sale_count n buys q
    ≡ sum_over (λ k. pos (trade_level buys x k)) n q = net-trade_levels n buys x q in
    rw (has-meet (meet x q) buys n, has-minus (meet x q) buys n, has-meet x q n)
    (by _ _ _ _ (has x n) (has q n) (has buys n) before)
  where
    by : (m o : ℕ) (c s : ℤ) (h l b : Bool) → (pos m -ℤ pos o) +ℤ c ≡ s
        → (pos (m + (if (h && l) && b then 1 else 0)) -ℤ pos (o + (if (h && l) && not b then 1 else 0)))
        +ℤ (c +ℤ (if l then (if b then pos 0 else pos 1) else pos 0))
        ≡ s +ℤ (if l then pos (if b then (if h then 1 else 0) else (if h then 0 else 1)) else pos 0)
    by m o c s true true true e = omega (arith, ints, e)
    by m o c s true true false e = omega (arith, ints, e)
    by m o c s true false true e = omega (arith, ints, e)
    by m o c s true false false e = omega (arith, ints, e)
    by m o c s false true true e = omega (arith, ints, e)
    by m o c s false true false e = omega (arith, ints, e)
    by m o c s false false true e = omega (arith, ints, e)
    by m o c s false false false e = omega (arith, ints, e)

-- the net count within a set of own positions, with its sales, is the sum of its levels
pub net-level_sum : (n buys x q : ℕ) → x < 2 ^ n → q < 2 ^ n
    → net buys (meet x q) +ℤ sale_count n buys q ≡ level_sum n buys x q
unfolding level_sum
net-level_sum n buys x q x_below q_below =
    let counted = net_at n buys (meet x q) (meet_within x q n x_below) in
    let trades = net-trade_levels n buys x q in
    let levels : sum_over (λ k. pos (level n buys x k)) n q ≡ sum_over (λ k. pos (trade_level buys x k)) n q =
    sum_over-same_terms (λ k. pos (level n buys x k)) (λ k. pos (trade_level buys x k)) q n
    (λ k h member. ap pos (level-trade n buys x k h)) in
    let no_null : sum_over (λ k. pos (level n buys x k)) (suc n) q ≡ sum_over (λ k. pos (level n buys x k)) n q =
    sum_over-above (λ k. pos (level n buys x k)) q n (suc n) q_below (omega arith) in
    omega (arith, ints, counted, trades, levels, no_null)

-- the sum of the differences is the difference of the sums
pub sum_over-difference : (f g : ℕ → ℤ) (m q : ℕ) → sum_over (λ k. f k -ℤ g k) m q ≡ sum_over f m q -ℤ sum_over g m q
unfolding sum_over
sum_over-difference f g zero q = refl
sum_over-difference f g (suc m) q =
    let before : sum_over (λ k. f k -ℤ g k) m q ≡ sum_over f m q -ℤ sum_over g m q = sum_over-difference f g m q in
    let here : (if has q m then f m -ℤ g m else pos 0) ≡ (if has q m then f m else pos 0) -ℤ (if has q m then g m
    else pos 0) = by (has q m) in
    omega (arith, ints, before, here)
  where
    by : (b : Bool) → (if b then f m -ℤ g m else pos 0) ≡ (if b then f m else pos 0) -ℤ (if b then g m else pos 0)
    by true = refl
    by false = refl

-- by how much a level of x is above that of y
abbrev pub excess : ℕ → ℕ → ℕ → ℕ → ℕ → ℤ
excess n buys x y k = pos (level n buys x k) -ℤ pos (level n buys y k)

-- over a set of own positions the excess sums to the difference of the net counts
pub excess-net : (n buys x y q : ℕ) → x < 2 ^ n → y < 2 ^ n → q < 2 ^ n
    → sum_over (excess n buys x y) (suc n) q ≡ net buys (meet x q) -ℤ net buys (meet y q)
unfolding level_sum
excess-net n buys x y q x_below y_below q_below =
    let parts = sum_over-difference (λ k. pos (level n buys x k)) (λ k. pos (level n buys y k)) (suc n) q in
    let first = net-level_sum n buys x q x_below q_below in
    let second = net-level_sum n buys y q y_below q_below in
    omega (arith, ints, parts, first, second)

-- 1 at a place below m sums to 1 over a set with the place, and to 0 over another
sum_over-one_at : (i m q : ℕ) → i < m → sum_over (λ k. pos (one_at i k)) m q ≡ member_count q i
unfolding sum_over
sum_over-one_at i zero q inside = absurd (omega (arith, inside))
sum_over-one_at i (suc m) q inside = elim (cases_eq i m) [
  | inl e ↦
      let before : sum_over (λ k. pos (one_at i k)) m q ≡ sum_over (λ k. pos 0) m q =
      sum_over-same_terms (λ k. pos (one_at i k)) (λ k. pos 0) q m
      (λ k h member. ap pos (one_at-other i k (λ f. omega (arith, e, f, h)))) in
      let zero_sum = no_terms m in
      let here : (if has q m then pos (one_at i m) else pos 0) ≡ member_count q i =
      subst (λ (k : ℕ). (if has q k then pos (one_at i k) else pos 0) ≡ member_count q i) e
      (ap (λ (t : ℕ). if has q i then pos t else pos 0) (one_at-same i)) in
      omega (arith, ints, before, zero_sum, here)
  | inr other ↦
      let before : sum_over (λ k. pos (one_at i k)) m q ≡ member_count q i =
      sum_over-one_at i m q (omega (arith, inside, other)) in
      let here : (if has q m then pos (one_at i m) else pos 0) ≡ pos 0 =
      ap (λ (t : ℕ). if has q m then pos t else pos 0) (one_at-other i m other) ∙ by (has q m) in
      omega (arith, ints, before, here)
]
  where
    by : (b : Bool) → (if b then pos 0 else pos 0) ≡ pos 0
    by true = refl
    by false = refl

    no_terms : (k : ℕ) → sum_over (λ k'. pos 0) k q ≡ pos 0
    no_terms zero = refl
    no_terms (suc k) =
        let before : sum_over (λ k'. pos 0) k q ≡ pos 0 = no_terms k in
        let here : (if has q k then pos 0 else pos 0) ≡ pos 0 = by (has q k) in
        omega (arith, ints, before, here)

-- a change by 1 at two places, in the sum over a set
sum_over-moved : (f g : ℕ → ℕ) (i j m q : ℕ) → i < m → j < m → ((k : ℕ) → k < m → g k + one_at j k ≡ f k + one_at i k)
    → sum_over (λ k. pos (g k)) m q +ℤ member_count q j ≡ sum_over (λ k. pos (f k)) m q +ℤ member_count q i
sum_over-moved f g i j m q i_inside j_inside moved =
    let after = sum_over-plus (λ k. pos (g k)) (λ k. pos (one_at j k)) m q in
    let before = sum_over-plus (λ k. pos (f k)) (λ k. pos (one_at i k)) m q in
    let same : sum_over (λ k. pos (g k) +ℤ pos (one_at j k)) m q ≡ sum_over (λ k. pos (f k) +ℤ pos (one_at i k)) m q =
    sum_over-same_terms (λ k. pos (g k) +ℤ pos (one_at j k)) (λ k. pos (f k) +ℤ pos (one_at i k)) q m (λ k h member.
    let here = moved k h in omega (arith, ints, here)) in
    let rise = sum_over-one_at i m q i_inside in
    let fall = sum_over-one_at j m q j_inside in
    omega (arith, ints, after, before, same, rise, fall)

-- a bundle that is raised at i and lowered at j: what its net count within a set of own positions gains and loses
pub net-move : (n buys x i j q : ℕ) → x < 2 ^ n → q < 2 ^ n → i ≤ n → j ≤ n → i ≢ j → CanRise n (level n buys x) i
    → CanFall n (level n buys x) j
    → net buys (meet (move n x i j) q) +ℤ member_count q j ≡ net buys (meet x q) +ℤ member_count q i
unfolding level_sum
net-move n buys x i j q x_below q_below i_within j_within apart rise fall =
    let moved = sum_over-moved (level n buys x) (level n buys (move n x i j)) i j (suc n) q (omega (arith, i_within))
    (omega (arith, j_within))
    (λ k h. (places n buys).levels x i j k i_within j_within apart rise fall (omega (arith, h))) in
    let before = net-level_sum n buys x q x_below q_below in
    let after = net-level_sum n buys (move n x i j) q (move-within n x i j x_below) q_below in
    omega (arith, ints, moved, before, after)
