-- The two halves of the exchange property and the one statement over places.
use Rattle.std.proofs.Common.{◌≡◌, ℕ, zero, suc, ◌+◌, ◌-◌, ◌^◌, ◌<◌, Bool, true, false, not, ◌&&◌, refl, sym, ap, ◌∙◌, subst, arith, ◌↔◌, inl, inr, if◌then◌else◌, ℤ, pos, ◌+ℤ◌}
use Rattle.std.specs.Prelude.{◌<ℤ◌, Some}
use Rattle.std.proofs.lemmas.Bool.{cases_lt}
use Rattle.std.proofs.lemmas.Int.{ints}
use Rattle.tn_base.specs.Sets.{has, meet, minus, size_below}
use Rattle.tn_base.specs.Firm.{Firm, net, up, HasOwnBundles}
use Rattle.tn_base.specs.Exchange.{AreEnough, SwapsDown, Exchanges, MeetsExchange}
use Rattle.tn_base.proofs.SetLemmas.{has-meet, has-minus, has_below}
use Rattle.tn_base.proofs.FirmLemmas.{has-up, net_at}
use Rattle.tn_firm_laws.specs.Places.{trade_level, null_level, level, move, SwapsAt, ExchangesOverPlaces}
use Rattle.tn_firm_laws.proofs.PlaceLemmas.{level-trade, level-null, move-both, move-to_null, move-from_null}

-- null's level counts the purchases that are missing and the sales that are there
null_level-size : (n buys x : ℕ) → null_level n buys x + size_below n (meet x buys) ≡ size_below n buys
    + size_below n (minus x buys)
unfolding null_level size_below trade_level
null_level-size zero buys x = refl
null_level-size (suc n) buys x =
    let before : null_level n buys x + size_below n (meet x buys) ≡ size_below n buys + size_below n (minus x buys) =
    null_level-size n buys x in
    rw (has-meet x buys n, has-minus x buys n) (by _ _ _ _ (has buys n) (has x n) before)
  where
    by : (l m s o : ℕ) (b h : Bool) → l + m ≡ s + o
        → (l + (1 - (if b then (if h then 1 else 0) else (if h then 0 else 1)))) + (m + (if h && b then 1 else 0))
        ≡ (s + (if b then 1 else 0)) + (o + (if h && not b then 1 else 0))
    by l m s o true true e = omega arith
    by l m s o true false e = omega arith
    by l m s o false true e = omega arith
    by l m s o false false e = omega arith

-- so the net count and null's level sum to the count of the purchases
pub net-null_level : (n buys x : ℕ) → x < 2 ^ n → net buys x +ℤ pos (null_level n buys x) ≡ pos (size_below n buys)
net-null_level n buys x below = omega (arith, ints, null_level-size n buys x, net_at n buys x below)

-- the net count is smaller exactly where null's level is greater
pub null_is_net_count : (n buys x y : ℕ) → x < 2 ^ n → y < 2 ^ n → (net buys x <ℤ net buys y)
    ↔ (level n buys y n < level n buys x n)
null_is_net_count n buys x y x_below y_below =
    let first = net-null_level n buys x x_below in
    let second = net-null_level n buys y y_below in
    let p = level-null n buys x in
    let q = level-null n buys y in
    (λ h. omega (arith, ints, first, second, p, q, h), λ h. omega (arith, ints, first, second, p, q, h))

-- a trade is on the up side exactly where it has the greater level in x
pub up_is_level : (buys x y k : ℕ) → (has (up buys x y) k ≡ true) ↔ (trade_level buys y k < trade_level buys x k)
unfolding trade_level
up_is_level buys x y k = rw (has-up buys x y k) (by (has buys k) (has x k) (has y k))
  where
    by : (b h g : Bool) → ((if b then h && not g else g && not h) ≡ true)
        ↔ ((if b then (if g then 1 else 0) else (if g then 0 else 1)) < (if b then (if h then 1 else 0)
        else (if h then 0 else 1)))
    by true true true = (λ e. absurd (cc), λ h. absurd (omega (arith, h)))
    by true true false = (λ e. omega arith, λ h. refl)
    by true false true = (λ e. absurd (cc), λ h. absurd (omega (arith, h)))
    by true false false = (λ e. absurd (cc), λ h. absurd (omega (arith, h)))
    by false true true = (λ e. absurd (cc), λ h. absurd (omega (arith, h)))
    by false true false = (λ e. absurd (cc), λ h. absurd (omega (arith, h)))
    by false false true = (λ e. omega arith, λ h. refl)
    by false false false = (λ e. absurd (cc), λ h. absurd (omega (arith, h)))

-- a trade of the up side is an own trade, and its place is on the up side
up_to_level : (n buys x y k : ℕ) → x < 2 ^ n → y < 2 ^ n → has (up buys x y) k ≡ true → (k < n)
    × (level n buys y k < level n buys x k)
up_to_level n buys x y k x_below y_below e =
    let own : k < n =
    within (has x k) (has y k) (has buys k) (has_below x n k x_below) (has_below y n k y_below)
    (sym (has-up buys x y k) ∙ e) in
    let p = level-trade n buys x k own in
    let q = level-trade n buys y k own in
    let h = (up_is_level buys x y k).0 e in
    (own, omega (arith, p, q, h))
  where
    within : (h g b : Bool) → (h ≡ true → k < n) → (g ≡ true → k < n) → (if b then h && not g else g && not h) ≡ true
        → k < n
    within true g b p q e = p refl
    within false true b p q e = q refl
    within false false true p q e = cc
    within false false false p q e = cc

-- a trade whose place is on the up side is on the up side
level_to_up : (n buys x y k : ℕ) → k < n → level n buys y k < level n buys x k → has (up buys x y) k ≡ true
level_to_up n buys x y k own h =
    let p = level-trade n buys x k own in
    let q = level-trade n buys y k own in
    (up_is_level buys x y k).1 (omega (arith, p, q, h))

-- the same firm's worths at other names of the two bundles
enough_at : (firm : Firm) (x y x' y' : ℕ) (total : ℤ) → x ≡ x' → y ≡ y' → AreEnough firm x y total
    → AreEnough firm x' y' total
enough_at firm x y x' y' total p q e =
    subst (λ (u : ℕ). AreEnough firm u y' total) p (subst (λ (v : ℕ). AreEnough firm x v total) q e)

-- both halves give the statement over places
pub exchange_to_places : (firm : Firm) → HasOwnBundles firm → MeetsExchange firm → ExchangesOverPlaces firm
exchange_to_places firm own meets x y a b x_is y_is i i_within i_up = elim (cases_lt i firm.count) [
  | inl p ↦ elim (meets.one x y a b x_is y_is i (level_to_up firm.count firm.buys x y i p i_up)) [
    | inl swap ↦
        let down = up_to_level firm.count firm.buys y x swap.at (own y b y_is) (own x a x_is) swap.is_down in
        record {
          at = swap.at;
          is_place = (let q = down.0 in omega (arith, q));
          is_down = down.1;
          enough = enough_at firm _ _ _ _ (a +ℤ b) (sym (move-both firm.count x i swap.at p down.0))
              (sym (move-both firm.count y i swap.at p down.0)) swap.enough;
        }
    | inr alone ↦ record {
      at = firm.count;
      is_place = omega arith;
      is_down = (null_is_net_count firm.count firm.buys y x (own y b y_is) (own x a x_is)).0 alone.greater;
      enough = enough_at firm _ _ _ _ (a +ℤ b) (sym (move-to_null firm.count x i p))
          (sym (move-to_null firm.count y i p)) alone.enough;
    }
  ]
  | inr p ↦
      let e : i ≡ firm.count = omega (arith, i_within, p) in
      let greater : level firm.count firm.buys y firm.count < level firm.count firm.buys x firm.count =
      subst (λ (k : ℕ). level firm.count firm.buys y k < level firm.count firm.buys x k) e i_up in
      let swap = meets.net_count x y a b x_is y_is
      ((null_is_net_count firm.count firm.buys x y (own x a x_is) (own y b y_is)).1 greater) in
      let down = up_to_level firm.count firm.buys y x swap.at (own y b y_is) (own x a x_is) swap.is_down in
      subst (SwapsAt firm x y (a +ℤ b)) (sym e) (record {
        at = swap.at;
        is_place = (let q = down.0 in omega (arith, q));
        is_down = down.1;
        enough = enough_at firm _ _ _ _ (a +ℤ b) (sym (move-from_null firm.count x swap.at down.0))
            (sym (move-from_null firm.count y swap.at down.0)) swap.enough;
      })
]

-- and the statement over places gives both halves
pub exchange_from_places : (firm : Firm) → HasOwnBundles firm → ExchangesOverPlaces firm → MeetsExchange firm
exchange_from_places firm own over = record {
  one = λ x y a b x_is y_is i i_up.
      let here = up_to_level firm.count firm.buys x y i (own x a x_is) (own y b y_is) i_up in
      half_one x y a b x_is y_is i here.0 (over x y a b x_is y_is i (let p = here.0 in omega (arith, p)) here.1);
  net_count = λ x y a b x_is y_is smaller.
      let greater = (null_is_net_count firm.count firm.buys x y (own x a x_is) (own y b y_is)).0 smaller in
      half_two x y a b x_is y_is greater (over x y a b x_is y_is firm.count (omega arith) greater);
}
  where
    half_one : (x y : ℕ) (a b : ℤ) → firm.worth x ≡ Some a → firm.worth y ≡ Some b → (i : ℕ) → i < firm.count
        → SwapsAt firm x y (a +ℤ b) i → Exchanges firm x y (a +ℤ b) i
    half_one x y a b x_is y_is i p swap = elim (cases_lt swap.at firm.count) [
      | inl q ↦ inl (record {
        at = swap.at;
        is_down = level_to_up firm.count firm.buys y x swap.at q swap.is_down;
        enough = enough_at firm _ _ _ _ (a +ℤ b) (move-both firm.count x i swap.at p q)
            (move-both firm.count y i swap.at p q) swap.enough;
      })
      | inr q ↦
          let e : swap.at ≡ firm.count = (let r = swap.is_place in omega (arith, q, r)) in
          inr (record {
            greater = (null_is_net_count firm.count firm.buys y x (own y b y_is) (own x a x_is)).1
                (subst (λ (k : ℕ). level firm.count firm.buys x k < level firm.count firm.buys y k) e swap.is_down);
            enough = enough_at firm _ _ _ _ (a +ℤ b)
                (ap (move firm.count x i) e ∙ move-to_null firm.count x i p) (ap (move firm.count y i) e
                ∙ move-to_null firm.count y i p) swap.enough;
          })
    ]

    half_two : (x y : ℕ) (a b : ℤ) → firm.worth x ≡ Some a → firm.worth y ≡ Some b
        → level firm.count firm.buys y firm.count < level firm.count firm.buys x firm.count
        → SwapsAt firm x y (a +ℤ b) firm.count → SwapsDown firm x y x y (a +ℤ b)
    half_two x y a b x_is y_is greater swap = elim (cases_lt swap.at firm.count) [
      | inl q ↦ record {
        at = swap.at;
        is_down = level_to_up firm.count firm.buys y x swap.at q swap.is_down;
        enough = enough_at firm _ _ _ _ (a +ℤ b) (move-from_null firm.count x swap.at q)
            (move-from_null firm.count y swap.at q) swap.enough;
      }
      | inr q ↦
          let e : swap.at ≡ firm.count = (let r = swap.is_place in omega (arith, q, r)) in
          let less : level firm.count firm.buys x firm.count < level firm.count firm.buys y firm.count =
          subst (λ (k : ℕ). level firm.count firm.buys x k < level firm.count firm.buys y k) e swap.is_down in
          absurd (omega (arith, less, greater))
    ]
