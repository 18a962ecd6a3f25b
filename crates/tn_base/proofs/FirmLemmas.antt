-- The up side of two bundles, and the net count, by itself and after a toggle.
use Rattle.std.proofs.Common.{◌≡◌, ℕ, ◌+◌, ◌^◌, ◌<◌, Bool, true, false, not, ◌&&◌, ◌||◌, refl, sym, ap, ◌∙◌, subst, arith, inl, inr, if◌then◌else◌, pos, ◌+ℤ◌, ◌-ℤ◌}
use Rattle.std.proofs.lemmas.Int.{ints}
use Rattle.std.proofs.lemmas.Bool.{cases_eq}
use Rattle.tn_base.specs.Sets.{has, toggle, meet, minus, size, size_below}
use Rattle.tn_base.specs.Firm.{net, up}
use Rattle.tn_base.proofs.SetLemmas.{same_set, has-zero, has-union, has-meet, has-minus, has-toggle_same, has-toggle_other, meet_within, minus_within, toggle-toggle}
use Rattle.tn_base.proofs.SizeLemmas.{size_at, size-toggle_in}

-- the up side: purchases in x and not in y, and sales in y and not in x
pub has-up : (buys x y k : ℕ) → has (up buys x y) k ≡ (if has buys k then has x k && not (has y k)
    else has y k && not (has x k))
unfolding up
has-up buys x y k = simp (has-union, has-meet, has-minus) (by_side (has buys k) (has x k) (has y k))
  where
    by_side : (b p q : Bool) → (((p && not q) && b) || ((q && not p) && not b)) ≡ (if b then p && not q else q && not p)
    by_side true true true = refl
    by_side true true false = refl
    by_side true false true = refl
    by_side true false false = refl
    by_side false true true = refl
    by_side false true false = refl
    by_side false false true = refl
    by_side false false false = refl

-- the net count, from the positions below n
pub net_at : (n buys x : ℕ) → x < 2 ^ n → net buys x ≡ pos (size_below n (meet x buys))
    -ℤ pos (size_below n (minus x buys))
unfolding net
net_at n buys x below =
    let within = size_at n (meet x buys) (meet_within x buys n below) in
    let outside = size_at n (minus x buys) (minus_within x buys n below) in
    omega (arith, ints, within, outside)

-- the empty bundle has the net count 0
pub net-zero : (buys : ℕ) → net buys 0 ≡ pos 0
unfolding net
net-zero buys =
    let within : meet 0 buys ≡ 0 =
    same_set _ _ (λ k. has-meet 0 buys k ∙ ap (λ b. b && has buys k) (has-zero k) ∙ sym (has-zero k)) in
    let outside : minus 0 buys ≡ 0 =
    same_set _ _ (λ k. has-minus 0 buys k ∙ ap (λ b. b && not (has buys k)) (has-zero k) ∙ sym (has-zero k)) in
    let bought : size (meet 0 buys) ≡ size 0 = ap size within in
    let sold : size (minus 0 buys) ≡ size 0 = ap size outside in
    omega (arith, ints, bought, sold)

-- a toggled member of the other set is toggled in what both have
pub meet-toggle_in : (x y i : ℕ) → has y i ≡ true → meet (toggle x i) y ≡ toggle (meet x y) i
meet-toggle_in x y i present = same_set _ _ (λ k.
    elim (cases_eq k i) [
      | inl e ↦ subst (λ (j : ℕ). has (meet (toggle x i) y) j ≡ has (toggle (meet x y) i) j) (sym e)
          (has-meet (toggle x i) y i ∙ ap (λ b. b && has y i) (has-toggle_same x i) ∙ here (has x i) (has y i) present
          ∙ ap not (sym (has-meet x y i)) ∙ sym (has-toggle_same (meet x y) i))
      | inr d ↦ has-meet (toggle x i) y k ∙ ap (λ b. b && has y k) (has-toggle_other x i k d)
          ∙ sym (has-meet x y k) ∙ sym (has-toggle_other (meet x y) i k d)
    ])
  where
    here : (p q : Bool) → q ≡ true → (not p && q) ≡ not (p && q)
    here true q h = ap not (sym h)
    here false q h = h

-- what the other set doesn't have stays out of what both have
pub meet-toggle_out : (x y i : ℕ) → has y i ≡ false → meet (toggle x i) y ≡ meet x y
meet-toggle_out x y i absent = same_set _ _ (λ k.
    elim (cases_eq k i) [
      | inl e ↦ subst (λ (j : ℕ). has (meet (toggle x i) y) j ≡ has (meet x y) j) (sym e)
          (has-meet (toggle x i) y i ∙ here (has (toggle x i) i) (has x i) (has y i) absent ∙ sym (has-meet x y i))
      | inr d ↦ has-meet (toggle x i) y k ∙ ap (λ b. b && has y k) (has-toggle_other x i k d) ∙ sym (has-meet x y k)
    ])
  where
    none : (p q : Bool) → q ≡ false → (p && q) ≡ false
    none true q h = h
    none false q h = refl

    here : (p p' q : Bool) → q ≡ false → (p && q) ≡ (p' && q)
    here p p' q h = none p q h ∙ sym (none p' q h)

-- what the other set doesn't have is toggled in what is left without it
pub minus-toggle_in : (x y i : ℕ) → has y i ≡ false → minus (toggle x i) y ≡ toggle (minus x y) i
minus-toggle_in x y i absent = same_set _ _ (λ k.
    elim (cases_eq k i) [
      | inl e ↦ subst (λ (j : ℕ). has (minus (toggle x i) y) j ≡ has (toggle (minus x y) i) j) (sym e)
          (has-minus (toggle x i) y i ∙ ap (λ b. b && not (has y i)) (has-toggle_same x i)
          ∙ here (has x i) (has y i) absent
          ∙ ap not (sym (has-minus x y i)) ∙ sym (has-toggle_same (minus x y) i))
      | inr d ↦ has-minus (toggle x i) y k ∙ ap (λ b. b && not (has y k)) (has-toggle_other x i k d)
          ∙ sym (has-minus x y k) ∙ sym (has-toggle_other (minus x y) i k d)
    ])
  where
    here : (p q : Bool) → q ≡ false → (not p && not q) ≡ not (p && not q)
    here true q h = ap not (sym (ap not h))
    here false q h = ap not h

-- what the other set has stays out of what is left without it
pub minus-toggle_out : (x y i : ℕ) → has y i ≡ true → minus (toggle x i) y ≡ minus x y
minus-toggle_out x y i present = same_set _ _ (λ k.
    elim (cases_eq k i) [
      | inl e ↦ subst (λ (j : ℕ). has (minus (toggle x i) y) j ≡ has (minus x y) j) (sym e)
          (has-minus (toggle x i) y i ∙ here (has (toggle x i) i) (has x i) (has y i) present ∙ sym (has-minus x y i))
      | inr d ↦ has-minus (toggle x i) y k ∙ ap (λ b. b && not (has y k)) (has-toggle_other x i k d)
          ∙ sym (has-minus x y k)
    ])
  where
    none : (p q : Bool) → q ≡ true → (p && not q) ≡ false
    none true q h = ap not h
    none false q h = refl

    here : (p p' q : Bool) → q ≡ true → (p && not q) ≡ (p' && not q)
    here p p' q h = none p q h ∙ sym (none p' q h)

-- whether a purchase is among the purchases of a bundle
has_bought : (buys x i : ℕ) → has buys i ≡ true → has (meet x buys) i ≡ has x i
has_bought buys x i bought = has-meet x buys i ∙ kept (has x i) (has buys i) bought
  where
    kept : (p q : Bool) → q ≡ true → (p && q) ≡ p
    kept true q h = h
    kept false q h = refl

-- whether a sale is among the sales of a bundle
has_sold : (buys x i : ℕ) → has buys i ≡ false → has (minus x buys) i ≡ has x i
has_sold buys x i sold = has-minus x buys i ∙ kept (has x i) (has buys i) sold
  where
    kept : (p q : Bool) → q ≡ false → (p && not q) ≡ p
    kept true q h = ap not h
    kept false q h = refl

-- a purchase moved in raises the net count
pub net-toggle_buy_in : (buys x i : ℕ) → has buys i ≡ true → has x i ≡ false
    → net buys (toggle x i) ≡ net buys x +ℤ pos 1
unfolding net
net-toggle_buy_in buys x i bought absent =
    let within : size (meet (toggle x i) buys) ≡ size (meet x buys) + 1 =
    ap size (meet-toggle_in x buys i bought) ∙ size-toggle_in (meet x buys) i (has_bought buys x i bought ∙ absent) in
    let outside : size (minus (toggle x i) buys) ≡ size (minus x buys) = ap size (minus-toggle_out x buys i bought) in
    omega (arith, ints, within, outside)

-- a purchase moved out lowers the net count
pub net-toggle_buy_out : (buys x i : ℕ) → has buys i ≡ true → has x i ≡ true
    → net buys (toggle x i) ≡ net buys x -ℤ pos 1
net-toggle_buy_out buys x i bought present =
    let back = net-toggle_buy_in buys (toggle x i) i bought (has-toggle_same x i ∙ ap not present) in
    let same : net buys (toggle (toggle x i) i) ≡ net buys x = ap (net buys) (toggle-toggle x i) in
    omega (arith, ints, back, same)

-- a sale moved in lowers the net count
pub net-toggle_sell_in : (buys x i : ℕ) → has buys i ≡ false → has x i ≡ false
    → net buys (toggle x i) ≡ net buys x -ℤ pos 1
unfolding net
net-toggle_sell_in buys x i sold absent =
    let within : size (meet (toggle x i) buys) ≡ size (meet x buys) = ap size (meet-toggle_out x buys i sold) in
    let outside : size (minus (toggle x i) buys) ≡ size (minus x buys) + 1 =
    ap size (minus-toggle_in x buys i sold) ∙ size-toggle_in (minus x buys) i (has_sold buys x i sold ∙ absent) in
    omega (arith, ints, within, outside)

-- a sale moved out raises the net count
pub net-toggle_sell_out : (buys x i : ℕ) → has buys i ≡ false → has x i ≡ true
    → net buys (toggle x i) ≡ net buys x +ℤ pos 1
net-toggle_sell_out buys x i sold present =
    let back = net-toggle_sell_in buys (toggle x i) i sold (has-toggle_same x i ∙ ap not present) in
    let same : net buys (toggle (toggle x i) i) ≡ net buys x = ap (net buys) (toggle-toggle x i) in
    omega (arith, ints, back, same)
