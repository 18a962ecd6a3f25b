-- That close bundles are those two units apart, and the law over them.
use Rattle.std.proofs.Common.{◌≡◌, ℕ, zero, suc, ◌+◌, ◌-◌, ◌^◌, ◌<◌, ◌≤◌, Bool, true, false, not, ◌&&◌, refl, sym, ap, ◌∙◌, subst, arith, inl, inr, if◌then◌else◌, ℤ, pos, negsuc, ◌+ℤ◌, ◌-ℤ◌}
use Rattle.std.specs.Prelude.{◌≤ℤ◌, nat_abs, Option, Some, None}
use Rattle.std.proofs.Math.Path.{subst₂}
use Rattle.std.proofs.lemmas.Bool.{cases_lt}
use Rattle.std.proofs.lemmas.Int.{ints}
use Rattle.std.proofs.lemmas.Option.{same_Some}
use Rattle.tn_base.specs.Sets.{has, minus, size_below}
use Rattle.tn_base.specs.Firm.{Firm, HasOwnBundles, net, up}
use Rattle.tn_base.specs.Every.{HasEveryBundle}
use Rattle.tn_base.specs.Exchange.{AreEnough, SwapsDown, Exchanges, IsWrongAt, Fails, NoneFails}
use Rattle.tn_base.proofs.SetLemmas.{has-minus, has_below, minus_within}
use Rattle.tn_base.proofs.SizeLemmas.{size_at}
use Rattle.tn_base.proofs.ExchangeLemmas.{up_within, exchanges_or_not, swaps_or_not, none_fails_from_exchange}
use Rattle.tn_firm_laws.specs.Places.{trade_level, null_level, level, move, sum_to, SwapsAt, ExchangesOverPlaces}
use Rattle.tn_firm_laws.specs.Close.{distance, AreClose, NoneCloseFails}
use Rattle.tn_firm_laws.specs.Quads.{value}
use Rattle.tn_firm_laws.proofs.SumLemmas.{sum_to-same}
use Rattle.tn_firm_laws.proofs.PlaceLemmas.{level-trade, level-null, move-both, move-to_null, move-from_null}
use Rattle.tn_firm_laws.proofs.ExchangeLemmas.{net-null_level, null_is_net_count, up_is_level, exchange_from_places}
use Rattle.tn_firm_laws.proofs.DistanceLemmas.{gap}
use Rattle.tn_firm_laws.proofs.CloseMoves.{value_is, move-within, gap-symmetric, gap-positive, Moves, ExchangesAt}
use Rattle.tn_firm_laws.proofs.CloseLemmas.{exchanges_everywhere}

-- each position in just one of two bundles is one level that one of them has more
sizes_are_levels : (n buys x y : ℕ) → size_below n (minus x y) + size_below n (minus y x)
    ≡ sum_to (λ k. trade_level buys x k - trade_level buys y k) n
    + sum_to (λ k. trade_level buys y k - trade_level buys x k) n
unfolding size_below sum_to trade_level
sizes_are_levels zero buys x y = refl
sizes_are_levels (suc n) buys x y =
    let before : size_below n (minus x y) + size_below n (minus y x)
    ≡ sum_to (λ k. trade_level buys x k - trade_level buys y k) n
    + sum_to (λ k. trade_level buys y k - trade_level buys x k) n = sizes_are_levels n buys x y in
    rw (has-minus x y n, has-minus y x n) (by _ _ _ _ (has buys n) (has x n) (has y n) before)
  where
    by : (s t a b : ℕ) (c h g : Bool) → s + t ≡ a + b
        → (s + (if h && not g then 1 else 0)) + (t + (if g && not h then 1 else 0))
        ≡ (a + ((if c then (if h then 1 else 0) else (if h then 0 else 1)) - (if c then (if g then 1 else 0)
        else (if g then 0 else 1))))
        + (b + ((if c then (if g then 1 else 0) else (if g then 0 else 1)) - (if c then (if h then 1 else 0)
        else (if h then 0 else 1))))
    by s t a b true true true e = omega (arith, e)
    by s t a b true true false e = omega (arith, e)
    by s t a b true false true e = omega (arith, e)
    by s t a b true false false e = omega (arith, e)
    by s t a b false true true e = omega (arith, e)
    by s t a b false true false e = omega (arith, e)
    by s t a b false false true e = omega (arith, e)
    by s t a b false false false e = omega (arith, e)

-- how far a bundle is above another, by trades and null
gap-parts : (n buys x y : ℕ) → gap n (level n buys x) (level n buys y)
    ≡ sum_to (λ k. trade_level buys x k - trade_level buys y k) n + (null_level n buys x - null_level n buys y)
unfolding gap sum_to
gap-parts n buys x y =
    let trades : sum_to (λ k. level n buys x k - level n buys y k) n
    ≡ sum_to (λ k. trade_level buys x k - trade_level buys y k) n =
    sum_to-same _ _ n (λ k h. let p = level-trade n buys x k h in let q = level-trade n buys y k h in
    omega (arith, p, q)) in
    let p = level-null n buys x in
    let q = level-null n buys y in
    omega (arith, trades, p, q)

-- the size of a difference
abs_difference : (z : ℤ) (p q : ℕ) → z +ℤ pos p ≡ pos q → nat_abs z ≡ (q - p) + (p - q)
abs_difference (pos n) p q e = omega (arith, ints, e)
abs_difference (negsuc n) p q e = omega (arith, ints, e)

-- the distance of two bundles counts how far each is above the other
pub distance-gaps : (n buys x y : ℕ) → x < 2 ^ n → y < 2 ^ n
    → distance buys x y ≡ gap n (level n buys x) (level n buys y) + gap n (level n buys y) (level n buys x)
unfolding distance
distance-gaps n buys x y x_own y_own =
    let first = size_at n (minus x y) (minus_within x y n x_own) in
    let second = size_at n (minus y x) (minus_within y x n y_own) in
    let sizes = sizes_are_levels n buys x y in
    let above = gap-parts n buys x y in
    let below = gap-parts n buys y x in
    let net_x = net-null_level n buys x x_own in
    let net_y = net-null_level n buys y y_own in
    let nets : nat_abs (net buys x -ℤ net buys y) ≡ (null_level n buys y - null_level n buys x)
    + (null_level n buys x - null_level n buys y) =
    abs_difference (net buys x -ℤ net buys y) (null_level n buys x) (null_level n buys y)
    (omega (arith, ints, net_x, net_y)) in
    omega (arith, first, second, sizes, above, below, nets)

-- bundles that are two units apart are close
pub close_from_gap : (firm : Firm) (x y : ℕ) → x < 2 ^ firm.count → y < 2 ^ firm.count
    → gap firm.count (level firm.count firm.buys x) (level firm.count firm.buys y) ≡ 2 → AreClose firm.buys x y
close_from_gap firm x y x_own y_own apart =
    let both = distance-gaps firm.count firm.buys x y x_own y_own in
    let same = gap-symmetric firm x y in
    omega (arith, both, same, apart)

-- a trade of the down side is an own trade, and its place is on the down side
down_to_level : (n buys x y k : ℕ) → x < 2 ^ n → y < 2 ^ n → has (up buys y x) k ≡ true → (k < n)
    × (level n buys x k < level n buys y k)
down_to_level n buys x y k x_own y_own e =
    let own : k < n = has_below (up buys y x) n k (up_within buys y x n y_own x_own) e in
    let p = level-trade n buys x k own in
    let q = level-trade n buys y k own in
    let h = (up_is_level buys y x k).0 e in
    (own, omega (arith, p, q, h))

-- a trade whose place is on the up side is on the up side
level_to_up : (n buys x y k : ℕ) → k < n → level n buys y k < level n buys x k → has (up buys x y) k ≡ true
level_to_up n buys x y k own h =
    let p = level-trade n buys x k own in
    let q = level-trade n buys y k own in
    (up_is_level buys x y k).1 (omega (arith, p, q, h))

-- the value of a possible bundle
pub value_from : (firm : Firm) (x : ℕ) (a : ℤ) → firm.worth x ≡ Some a → value firm x ≡ a
unfolding value
value_from firm x a is = rw is refl

-- bundles that are enough have enough value
pub enough_value : (firm : Firm) (x y x' y' : ℕ) (total : ℤ) → x' ≡ x → y' ≡ y → AreEnough firm x y total
    → total ≤ℤ (value firm x' +ℤ value firm y')
enough_value firm x y x' y' total p q e =
    let first : value firm x' ≡ e.first = ap (value firm) p ∙ value_from firm x e.first e.first_is in
    let second : value firm y' ≡ e.second = ap (value firm) q ∙ value_from firm y e.second e.second_is in
    let enough = e.enough in
    omega (arith, ints, first, second, enough)

-- a trade that exchanges moves
moves_from_exchanges : (firm : Firm) (x y i : ℕ) → x < 2 ^ firm.count → y < 2 ^ firm.count → i < firm.count
    → Exchanges firm x y (value firm x +ℤ value firm y) i → Moves firm x y i
moves_from_exchanges firm x y i x_own y_own p (inl swap) =
    let down = down_to_level firm.count firm.buys x y swap.at x_own y_own swap.is_down in
    record {
      at = swap.at;
      is_place = (let q = down.0 in omega (arith, q));
      is_down = down.1;
      enough = enough_value firm _ _ _ _ _ (move-both firm.count x i swap.at p down.0)
          (move-both firm.count y i swap.at p down.0) swap.enough;
    }
moves_from_exchanges firm x y i x_own y_own p (inr alone) = record {
  at = firm.count;
  is_place = omega arith;
  is_down = (null_is_net_count firm.count firm.buys y x y_own x_own).0 alone.greater;
  enough = enough_value firm _ _ _ _ _ (move-to_null firm.count x i p) (move-to_null firm.count y i p) alone.enough;
}

-- and so does null, where a trade swaps alone
moves_from_swap : (firm : Firm) (x y : ℕ) → x < 2 ^ firm.count → y < 2 ^ firm.count
    → SwapsDown firm x y x y (value firm x +ℤ value firm y) → Moves firm x y firm.count
moves_from_swap firm x y x_own y_own swap =
    let down = down_to_level firm.count firm.buys x y swap.at x_own y_own swap.is_down in
    record {
      at = swap.at;
      is_place = (let q = down.0 in omega (arith, q));
      is_down = down.1;
      enough = enough_value firm _ _ _ _ _ (move-from_null firm.count x swap.at down.0)
          (move-from_null firm.count y swap.at down.0) swap.enough;
    }

-- where no triple of close bundles fails, bundles two units apart exchange
close_exchanges : (firm : Firm) → HasEveryBundle firm → NoneCloseFails firm → ExchangesAt firm 2
close_exchanges firm every none x y i x_own y_own i_place i_up apart = elim (cases_lt i firm.count) [
  | inl p ↦ elim (exchanges_or_not firm x y (value firm x +ℤ value firm y) i x_own y_own) [
    | inl e ↦ moves_from_exchanges firm x y i x_own y_own p e
    | inr wrong ↦ absurd (none x y (Some i) (close_from_gap firm x y x_own y_own apart) (record {
      first = value firm x;
      second = value firm y;
      first_is = value_is firm every x x_own;
      second_is = value_is firm every y y_own;
      wrong = (level_to_up firm.count firm.buys x y i p i_up, wrong);
    }))
  ]
  | inr p ↦
      let e : i ≡ firm.count = omega (arith, i_place, p) in
      let greater : level firm.count firm.buys y firm.count < level firm.count firm.buys x firm.count =
      subst (λ (k : ℕ). level firm.count firm.buys y k < level firm.count firm.buys x k) e i_up in
      elim (swaps_or_not firm x y x y (value firm x +ℤ value firm y) x_own y_own) [
        | inl swap ↦ subst (Moves firm x y) (sym e) (moves_from_swap firm x y x_own y_own swap)
        | inr wrong ↦ absurd (none x y None (close_from_gap firm x y x_own y_own apart) (record {
          first = value firm x;
          second = value firm y;
          first_is = value_is firm every x x_own;
          second_is = value_is firm every y y_own;
          wrong = ((null_is_net_count firm.count firm.buys x y x_own y_own).1 greater, wrong);
        }))
      ]
]

-- what moves at all distances exchanges over places
pub exchanges_over_places : (firm : Firm) → HasOwnBundles firm → HasEveryBundle firm
    → ((d : ℕ) → ExchangesAt firm (suc d)) → ExchangesOverPlaces firm
exchanges_over_places firm own every moves x y a b x_is y_is i i_place i_up =
    swap (at_gap _ refl)
  where
    x_own : x < 2 ^ firm.count
    x_own = own x a x_is

    y_own : y < 2 ^ firm.count
    y_own = own y b y_is

    at_gap : (d : ℕ) → gap firm.count (level firm.count firm.buys x) (level firm.count firm.buys y) ≡ d
        → Moves firm x y i
    at_gap zero none = absurd (gap-positive firm x y i i_place i_up none)
    at_gap (suc d) apart = moves d x y i x_own y_own i_place i_up apart

    swap : Moves firm x y i → SwapsAt firm x y (a +ℤ b) i
    swap m = record {
      at = m.at;
      is_place = m.is_place;
      is_down = m.is_down;
      enough = record {
        first = value firm (move firm.count x i m.at);
        second = value firm (move firm.count y i m.at);
        first_is = value_is firm every (move firm.count x i m.at) (move-within firm.count x i m.at x_own);
        second_is = value_is firm every (move firm.count y i m.at) (move-within firm.count y i m.at y_own);
        enough = (let first = value_from firm x a x_is in let second = value_from firm y b y_is in let enough = m.enough
            in omega (arith, ints, first, second, enough));
      };
    }

-- close bundles decide
pub close_pairs_decide : (firm : Firm) → HasOwnBundles firm → HasEveryBundle firm → NoneCloseFails firm → NoneFails firm
close_pairs_decide firm own every none =
    none_fails_from_exchange firm (exchange_from_places firm own
    (exchanges_over_places firm own every (exchanges_everywhere firm (close_exchanges firm every none))))

-- the same firm's worths at other names of the two bundles
enough_at : (firm : Firm) (x y x' y' : ℕ) (total : ℤ) → x ≡ x' → y ≡ y' → AreEnough firm x y total
    → AreEnough firm x' y' total
enough_at firm x y x' y' total p q e = subst₂ (λ (u v : ℕ). AreEnough firm u v total) p q e

-- a place that swaps is a position that exchanges
exchanges_from_swap : (firm : Firm) (x y : ℕ) (total : ℤ) (i : ℕ) → x < 2 ^ firm.count → y < 2 ^ firm.count
    → i < firm.count
    → SwapsAt firm x y total i → Exchanges firm x y total i
exchanges_from_swap firm x y total i x_own y_own p swap = elim (cases_lt swap.at firm.count) [
  | inl q ↦ inl (record {
    at = swap.at;
    is_down = level_to_up firm.count firm.buys y x swap.at q swap.is_down;
    enough = enough_at firm _ _ _ _ total (move-both firm.count x i swap.at p q) (move-both firm.count y i swap.at p q)
        swap.enough;
  })
  | inr q ↦
      let e : swap.at ≡ firm.count = (let r = swap.is_place in omega (arith, q, r)) in
      inr (record {
        greater = (null_is_net_count firm.count firm.buys y x y_own x_own).1
            (subst (λ (k : ℕ). level firm.count firm.buys x k < level firm.count firm.buys y k) e swap.is_down);
        enough = enough_at firm _ _ _ _ total
            (ap (move firm.count x i) e ∙ move-to_null firm.count x i p) (ap (move firm.count y i) e
            ∙ move-to_null firm.count y i p) swap.enough;
      })
]

-- and where null swaps, a position of the down side does alone
down_from_swap : (firm : Firm) (x y : ℕ) (total : ℤ)
    → level firm.count firm.buys y firm.count < level firm.count firm.buys x firm.count
    → SwapsAt firm x y total firm.count → SwapsDown firm x y x y total
down_from_swap firm x y total greater swap = elim (cases_lt swap.at firm.count) [
  | inl q ↦ record {
    at = swap.at;
    is_down = level_to_up firm.count firm.buys y x swap.at q swap.is_down;
    enough = enough_at firm _ _ _ _ total (move-from_null firm.count x swap.at q)
        (move-from_null firm.count y swap.at q) swap.enough;
  }
  | inr q ↦
      let e : swap.at ≡ firm.count = (let r = swap.is_place in omega (arith, q, r)) in
      let less : level firm.count firm.buys x firm.count < level firm.count firm.buys y firm.count =
      subst (λ (k : ℕ). level firm.count firm.buys x k < level firm.count firm.buys y k) e swap.is_down in
      absurd (omega (arith, less, greater))
]

-- where each place of the up side of two bundles swaps, none of their triples fails
pub no_failure_from_swaps : (firm : Firm) (x y : ℕ) (a b : ℤ) → x < 2 ^ firm.count → y < 2 ^ firm.count
    → firm.worth x ≡ Some a → firm.worth y ≡ Some b
    → ((i : ℕ) → i ≤ firm.count → level firm.count firm.buys y i < level firm.count firm.buys x i
    → SwapsAt firm x y (a +ℤ b) i)
    → (at : Option ℕ) → Fails firm x y at → ⊥
no_failure_from_swaps firm x y a b x_own y_own x_is y_is swaps at f =
    by at (subst (λ (z : ℤ). IsWrongAt firm x y z at) (omega (arith, ints, first, second)) f.wrong)
  where
    first : f.first ≡ a
    first = same_Some _ _ (sym f.first_is ∙ x_is)

    second : f.second ≡ b
    second = same_Some _ _ (sym f.second_is ∙ y_is)

    by : (o : Option ℕ) → IsWrongAt firm x y (a +ℤ b) o → ⊥
    by (Some i) wrong =
        let up = down_to_level firm.count firm.buys y x i y_own x_own wrong.0 in
        wrong.1 (exchanges_from_swap firm x y (a +ℤ b) i x_own y_own up.0 (swaps i (let p = up.0 in
        omega (arith, p)) up.1))
    by None wrong =
        let greater = (null_is_net_count firm.count firm.buys x y x_own y_own).0 wrong.0 in
        wrong.1 (down_from_swap firm x y (a +ℤ b) greater (swaps firm.count (omega arith) greater))
