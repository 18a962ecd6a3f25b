-- Exchange of four free places is exchange between close bundles: the four places are the two of the up side and the
-- two of the down side.
use Rattle.std.proofs.Common.{◌≡◌, ◌≢◌, ℕ, suc, ◌+◌, ◌^◌, ◌<◌, ◌≤◌, refl, sym, ap, ◌∙◌, subst, arith, ◌⊎◌, inl, inr, ◌+ℤ◌}
use Rattle.std.specs.Prelude.{◌≤ℤ◌, Some}
use Rattle.std.proofs.lemmas.Bool.{cases_eq, cases_lt}
use Rattle.std.proofs.lemmas.Int.{ints}
use Rattle.tn_base.specs.Firm.{Firm, HasOwnBundles}
use Rattle.tn_base.specs.Every.{HasEveryBundle}
use Rattle.tn_base.specs.Exchange.{NoneFails}
use Rattle.tn_base.proofs.ExchangeLemmas.{exchange_from_none_fails, none_fails_from_exchange}
use Rattle.tn_firm_laws.specs.Places.{trade_level, null_level, level, toggle_at, move, one_at, SwapsAt, ExchangesOverPlaces}
use Rattle.tn_firm_laws.specs.Quads.{value, IsFree, AreFourFree, parted, QuadsExchangeAt, QuadsExchange, QuadsDecide}
use Rattle.tn_firm_laws.proofs.SumLemmas.{one_at-same}
use Rattle.tn_firm_laws.proofs.PlaceLemmas.{places, level-trade, level-null, toggle_at-trade, toggle_at-null, trade_level-le, trade_level-toggle_same, trade_level-toggle_other, null_level-toggle, toggle_at-order}
use Rattle.tn_firm_laws.proofs.ExchangeLemmas.{exchange_to_places, exchange_from_places}
use Rattle.tn_firm_laws.proofs.DistanceLemmas.{above_or_none, gap, levels_same, gap-nearer, up_apart_down}
use Rattle.tn_firm_laws.proofs.CloseMoves.{same_from_gap, gap-symmetric, move-within, value_is, unit_beside, Moves, ExchangesAt}
use Rattle.tn_firm_laws.proofs.CloseLemmas.{levels_of, exchanges_everywhere}
use Rattle.tn_firm_laws.proofs.ClosePairs.{enough_value, exchanges_over_places, close_pairs_decide}

-- a toggle at another place leaves the level of a trade
level-elsewhere : (n buys x k p : ℕ) → p ≢ k → trade_level buys (toggle_at n x k) p ≡ trade_level buys x p
level-elsewhere n buys x k p apart = elim (cases_lt k n) [
  | inl trade ↦ ap (λ (w : ℕ). trade_level buys w p) (toggle_at-trade n x k trade)
      ∙ trade_level-toggle_other buys x k p apart
  | inr null ↦ ap (λ (w : ℕ). trade_level buys w p) (toggle_at-null n x k null)
]

-- and one at the trade turns it
level-here : (n buys x p : ℕ) → p < n → trade_level buys (toggle_at n x p) p + trade_level buys x p ≡ 1
level-here n buys x p trade =
    subst (λ (w : ℕ). trade_level buys w p + trade_level buys x p ≡ 1) (sym (toggle_at-trade n x p trade))
    (trade_level-toggle_same buys x p)

-- a toggle of a trade at level 0 takes one unit of null's level, and one of null takes none
null-taken : (n buys x k : ℕ) → k < n → trade_level buys x k ≡ 0
    → null_level n buys (toggle_at n x k) + 1 ≡ null_level n buys x
null-taken n buys x k trade low =
    let turned = trade_level-toggle_same buys x k in
    let kept = null_level-toggle n buys x k trade in
    subst (λ (w : ℕ). null_level n buys w + 1 ≡ null_level n buys x) (sym (toggle_at-trade n x k trade))
    (omega (arith, turned, kept, low))

null-kept : (n buys x k : ℕ) → n ≤ k → null_level n buys (toggle_at n x k) ≡ null_level n buys x
null-kept n buys x k null = ap (null_level n buys) (toggle_at-null n x k null)

-- two numbers stand for one place
abbrev AreAlike : ℕ → ℕ → ℕ → Type 0
AreAlike n j k = (w : ℕ) → toggle_at n w j ≡ toggle_at n w k

alike_null : (n j k : ℕ) → n ≤ j → n ≤ k → AreAlike n j k
alike_null n j k first second w = toggle_at-null n w j first ∙ sym (toggle_at-null n w k second)

alike_same : (n j k : ℕ) → j ≡ k → AreAlike n j k
alike_same n j k e w = ap (toggle_at n w) e

move-alike : (n x i j p q : ℕ) → AreAlike n i p → AreAlike n j q → move n x i j ≡ move n x p q
unfolding move
move-alike n x i j p q first second = second (toggle_at n x i) ∙ ap (λ (w : ℕ). toggle_at n w q) (first x)

-- moved at one of two places that were toggled and at another, a bundle has the other two toggled
move-first : (n z p q r : ℕ) → move n (move n z p q) p r ≡ move n z q r
move-first n z p q r = ap (λ (w : ℕ). move n w p r) ((places n 0).order z p q) ∙ (places n 0).through z q p r

move-second : (n z p q r : ℕ) → move n (move n z p q) r q ≡ move n z p r
move-second n z p q r = (places n 0).order (move n z p q) r q ∙ (places n 0).through z p q r

-- two moves toggle the places that they raise and those that they lower
moves-apart : (n x i j k l : ℕ) → move n (move n x j i) l k ≡ move n (move n x i k) j l
unfolding move
moves-apart n x i j k l =
    ap (λ (w : ℕ). toggle_at n (toggle_at n w l) k) (toggle_at-order n x j i)
    ∙ toggle_at-order n (toggle_at n (toggle_at n x i) j) l k
    ∙ ap (λ (w : ℕ). toggle_at n w l) (toggle_at-order n (toggle_at n x i) j k)

-- From four places to close bundles.

-- another number for a place beside a first one: where both are null, the second number of null
record Beside (n i k q : ℕ) : Type 0 where
  within : q ≤ n + 1
  apart : i ≢ q
  alike : AreAlike n q k
  which : (q ≡ k) ⊎ ((q ≡ n + 1) × (i ≡ n) × (k ≡ n))

beside : (n i k : ℕ) → k ≤ n → (i ≡ k → k ≡ n) → (q : ℕ) × Beside n i k q
beside n i k place null = elim (cases_eq i k) [
  | inl e ↦ (
    n + 1,
    record {
      within = omega arith;
      apart = λ f. let is = null e in omega (arith, e, f, is);
      alike = (let is = null e in alike_null n (n + 1) k (omega arith) (omega (arith, is)));
      which = inr (refl, (e ∙ null e), null e);
    },
  )
  | inr d ↦ (k, record { within = omega (arith, place); apart = d; alike = λ w. refl; which = inl refl })
]

-- what is said of two bundles a distance of four apart: y is x lowered at i and k and raised at j and l
record Apart (firm : Firm) (x y i j k l : ℕ) : Type 0 where
  i_place : i ≤ firm.count
  j_place : j ≤ firm.count
  k_place : k ≤ firm.count
  l_place : l ≤ firm.count
  i_up : level firm.count firm.buys y i < level firm.count firm.buys x i
  k_up : level firm.count firm.buys y k + one_at i k < level firm.count firm.buys x k
  j_down : level firm.count firm.buys x j < level firm.count firm.buys y j
  l_down : level firm.count firm.buys x l + one_at j l < level firm.count firm.buys y l

-- a place that is taken twice is null
twice_is_null : (firm : Firm) (x y i k : ℕ) → k ≤ firm.count
    → level firm.count firm.buys y k + one_at i k < level firm.count firm.buys x k
    → i ≡ k → k ≡ firm.count
twice_is_null firm x y i k place up e = elim (cases_eq k firm.count) [
  | inl is ↦ is
  | inr d ↦
      let one : one_at i k ≡ 1 = subst (λ (j : ℕ). one_at j k ≡ 1) (sym e) (one_at-same k) in
      let small = (places firm.count firm.buys).small x k (omega (arith, place, d)) in
      absurd (omega (arith, one, small, up))
]

-- the bundle y, from the four places
y_from : (firm : Firm) (x y i j k l : ℕ) → x < 2 ^ firm.count → y < 2 ^ firm.count → Apart firm x y i j k l
    → gap firm.count (level firm.count firm.buys x) (level firm.count firm.buys y) ≡ 2
    → y ≡ move firm.count (move firm.count x i k) j l
y_from firm x y i j k l x_own y_own at apart =
    same_from_gap firm y (move firm.count (move firm.count x j i) l k) y_own
    (move-within firm.count (move firm.count x j i) l k (move-within firm.count x j i x_own)) none
    ∙ moves-apart firm.count x i j k l
  where
    near : (m : ℕ) → m ≤ firm.count → level firm.count firm.buys (move firm.count x j i) m + one_at i m
        ≡ level firm.count firm.buys x m + one_at j m
    near m place = levels_of firm y x j i m at.j_place at.i_place at.j_down at.i_up place

    none : gap firm.count (level firm.count firm.buys y)
        (level firm.count firm.buys (move firm.count (move firm.count x j i) l k)) ≡ 0
    none =
        let are = places firm.count firm.buys in
        let turned = gap-symmetric firm x y in
        let first = gap-nearer firm.count (level firm.count firm.buys) (move firm.count) are y x j i at.j_place
        at.i_place at.j_down at.i_up in
        let l_near = near l at.l_place in
        let k_near = near k at.k_place in
        let l_down = at.l_down in
        let k_up = at.k_up in
        let second =
        gap-nearer firm.count (level firm.count firm.buys) (move firm.count) are y (move firm.count x j i) l k
        at.l_place at.k_place
        (omega (arith, l_near, l_down)) (omega (arith, k_near, k_up)) in
        omega (arith, apart, turned, first, second)

-- the four places are free where x has neither of its two
four_free : (firm : Firm) (x y i j k l q s : ℕ) → Apart firm x y i j k l → Beside firm.count i k q
    → Beside firm.count j l s
    → AreFourFree firm.count firm.buys (move firm.count x i k) i q j s
unfolding move
four_free firm x y i j k l q s at up down = record {
  free = (
    ((let p = at.i_place in omega (arith, p)), i_free),
    (up.within, q_free),
    ((let p = at.j_place in omega (arith, p)), j_free),
    (down.within, s_free),
  );
  apart = (up.apart, i_apart_j, i_apart_s, q_apart_j, q_apart_s, down.apart);
}
  where
    k_up : level firm.count firm.buys y k < level firm.count firm.buys x k
    k_up = let p = at.k_up in omega (arith, p)

    l_down : level firm.count firm.buys x l < level firm.count firm.buys y l
    l_down = let p = at.l_down in omega (arith, p)

    sides_apart : (u v : ℕ) → level firm.count firm.buys y u < level firm.count firm.buys x u
        → level firm.count firm.buys x v < level firm.count firm.buys y v → u ≢ v
    sides_apart u v = up_apart_down (level firm.count firm.buys x) (level firm.count firm.buys y) u v

    i_apart_j : i ≢ j
    i_apart_j = sides_apart i j at.i_up at.j_down

    i_apart_s : i ≢ s
    i_apart_s e = elim down.which [
      | inl is ↦ sides_apart i l at.i_up l_down (e ∙ is)
      | inr is ↦ let p = at.i_place in let f = is.0 in absurd (omega (arith, p, e, f))
    ]

    q_apart_j : q ≢ j
    q_apart_j e = elim up.which [
      | inl is ↦ sides_apart k j k_up at.j_down (sym is ∙ e)
      | inr is ↦ let p = at.j_place in let f = is.0 in absurd (omega (arith, p, e, f))
    ]

    q_apart_s : q ≢ s
    q_apart_s e = elim up.which [
      | inl is ↦ elim down.which [
        | inl other ↦ sides_apart k l k_up l_down (sym is ∙ e ∙ other)
        | inr other ↦ let p = at.k_place in let f = other.0 in absurd (omega (arith, p, e, f, is))
      ]
      | inr is ↦ elim down.which [
        | inl other ↦ let p = at.l_place in let f = is.0 in absurd (omega (arith, p, e, f, other))
        | inr other ↦ i_apart_j (is.1 ∙ sym other.1)
      ]
    ]

    -- a trade that x has more of is toggled once
    up_free : (u v : ℕ) → u ≢ v → u < firm.count → level firm.count firm.buys y u < level firm.count firm.buys x u
        → trade_level firm.buys (toggle_at firm.count x u) u ≡ 0
    up_free u v apart trade above =
        let is = level-trade firm.count firm.buys x u trade in
        let small = trade_level-le firm.buys x u in
        let turned = level-here firm.count firm.buys x u trade in
        omega (arith, is, small, turned, above)

    i_free : i < firm.count → trade_level firm.buys (toggle_at firm.count (toggle_at firm.count x i) k) i ≡ 0
    i_free trade =
        let other : i ≢ k = λ e. (let null = twice_is_null firm x y i k at.k_place at.k_up e in
        absurd (omega (arith, null, e, trade))) in
        level-elsewhere firm.count firm.buys (toggle_at firm.count x i) k i other ∙ up_free i k other trade at.i_up

    k_free : k < firm.count → trade_level firm.buys (toggle_at firm.count (toggle_at firm.count x i) k) k ≡ 0
    k_free trade =
        let other : i ≢ k = λ e. (let null = twice_is_null firm x y i k at.k_place at.k_up e in
        absurd (omega (arith, null, trade))) in
        ap (λ (w : ℕ). trade_level firm.buys w k) (toggle_at-order firm.count x i k)
        ∙ level-elsewhere firm.count firm.buys (toggle_at firm.count x k) i k (λ e. other (sym e))
        ∙ up_free k i (λ e. other (sym e)) trade k_up

    q_free : q < firm.count → trade_level firm.buys (toggle_at firm.count (toggle_at firm.count x i) k) q ≡ 0
    q_free trade = elim up.which [
      | inl is ↦ subst (λ (u : ℕ). u < firm.count
          → trade_level firm.buys (toggle_at firm.count (toggle_at firm.count x i) k) u ≡ 0) (sym is) k_free trade
      | inr is ↦ let f = is.0 in absurd (omega (arith, f, trade))
    ]

    -- a trade that y has more of is as it was
    down_free : (u : ℕ) → u < firm.count → level firm.count firm.buys x u < level firm.count firm.buys y u
        → trade_level firm.buys (toggle_at firm.count (toggle_at firm.count x i) k) u ≡ 0
    down_free u trade below =
        let is = level-trade firm.count firm.buys x u trade in
        let other = level-trade firm.count firm.buys y u trade in
        let small = trade_level-le firm.buys y u in
        let low : trade_level firm.buys x u ≡ 0 = omega (arith, is, other, small, below) in
        level-elsewhere firm.count firm.buys (toggle_at firm.count x i) k u (λ e. sides_apart k u k_up below (sym e))
        ∙ level-elsewhere firm.count firm.buys x i u (λ e. sides_apart i u at.i_up below (sym e)) ∙ low

    j_free : j < firm.count → trade_level firm.buys (toggle_at firm.count (toggle_at firm.count x i) k) j ≡ 0
    j_free trade = down_free j trade at.j_down

    s_free : s < firm.count → trade_level firm.buys (toggle_at firm.count (toggle_at firm.count x i) k) s ≡ 0
    s_free trade = elim down.which [
      | inl is ↦ subst (λ (u : ℕ). u < firm.count
          → trade_level firm.buys (toggle_at firm.count (toggle_at firm.count x i) k) u ≡ 0) (sym is)
          (λ t. down_free l t l_down) trade
      | inr is ↦ let f = is.0 in absurd (omega (arith, f, trade))
    ]

-- what a bundle is worth, by another name
same_value : (firm : Firm) (x y : ℕ) → x ≡ y → value firm x ≡ value firm y
same_value firm x y e = ap (value firm) e

-- toggled twice, a bundle is as before
moved_back : (n x i k : ℕ) → move n (move n x i k) i k ≡ x
moved_back n x i k = (places n 0).order (move n x i k) i k ∙ (places n 0).through x i k i ∙ (places n 0).same x i

-- a place of the up side moves with one of the two of the down side
moves_from_quad : (firm : Firm) (x y i j k l q s : ℕ) → Apart firm x y i j k l → Beside firm.count i k q
    → Beside firm.count j l s
    → y ≡ move firm.count (move firm.count x i k) j l → QuadsExchangeAt firm (move firm.count x i k) → Moves firm x y i
moves_from_quad firm x y i j k l q s at up down y_is quads =
    elim (quads i q j s (four_free firm x y i j k l q s at up down)) [
      | inl most ↦ record {
        at = l;
        is_place = at.l_place;
        is_down = (let p = at.l_down in omega (arith, p));
        enough = (
            let a = x_whole in
            let b = y_whole in
            let c = same_value firm _ _ (move-alike firm.count (move firm.count x i k) q s k l up.alike down.alike
            ∙ x_moved l) in
            let d = same_value firm _ _
            ((places firm.count 0).order (move firm.count x i k) i j ∙ sym (y_moved j l y_is))
            in
            omega (arith, ints, most, a, b, c, d));
      }
      | inr most ↦ record {
        at = j;
        is_place = at.j_place;
        is_down = at.j_down;
        enough = (
            let a = x_whole in
            let b = y_whole in
            let c = same_value firm _ _ (move-alike firm.count (move firm.count x i k) q j k j up.alike (λ w. refl)
            ∙ x_moved j) in
            let d = same_value firm _ _ (move-alike firm.count (move firm.count x i k) i s i l (λ w. refl) down.alike
            ∙ (places firm.count 0).order (move firm.count x i k) i l
            ∙ sym (y_moved l j (y_is ∙ (places firm.count 0).order (move firm.count x i k) j l))) in
            omega (arith, ints, most, a, b, c, d));
      }
    ]
  where
    x_whole : value firm (move firm.count (move firm.count x i k) i q) ≡ value firm x
    x_whole = same_value firm _ _ (move-alike firm.count (move firm.count x i k) i q i k (λ w. refl) up.alike
        ∙ moved_back firm.count x i k)

    y_whole : value firm (move firm.count (move firm.count x i k) j s) ≡ value firm y
    y_whole = same_value firm _ _ (move-alike firm.count (move firm.count x i k) j s j l (λ w. refl) down.alike
        ∙ sym y_is)

    -- x and y moved at i and at a place of the down side
    x_moved : (m : ℕ) → move firm.count (move firm.count x i k) k m ≡ move firm.count x i m
    x_moved m = (places firm.count 0).through x i k m

    y_moved : (u v : ℕ) → y ≡ move firm.count (move firm.count x i k) u v
        → move firm.count y i v ≡ move firm.count (move firm.count x i k) u i
    y_moved u v is = ap (λ (w : ℕ). move firm.count w i v) is ∙ move-second firm.count (move firm.count x i k) u v i

-- where four free places exchange, bundles two units apart do
exchanges_from_quads : (firm : Firm) → QuadsExchange firm → ExchangesAt firm 2
exchanges_from_quads firm quads x y i x_own y_own i_place i_up apart =
    elim (above_or_none (level firm.count firm.buys y) (level firm.count firm.buys x) (suc firm.count)) [
      | inr none ↦
          let same = levels_same firm.count (level firm.count firm.buys) (move firm.count) (places firm.count firm.buys)
          y x none i (omega (arith, i_place)) in
          absurd (omega (arith, same, i_up))
      | inl found ↦
          let turned = gap-symmetric firm x y in
          let j_place : found.0 ≤ firm.count = (let p = found.1 in omega (arith, p)) in
          let other = unit_beside firm 1 x y i (omega arith) i_place apart in
          let lower = unit_beside firm 1 y x found.0 (omega arith) j_place (omega (arith, turned, apart)) in
          let k_place : other.0 ≤ firm.count = (let p = other.1 in omega (arith, p)) in
          let l_place : lower.0 ≤ firm.count = (let p = lower.1 in omega (arith, p)) in
          let at : Apart firm x y i found.0 other.0 lower.0 = record {
            i_place = i_place;
            j_place = j_place;
            k_place = k_place;
            l_place = l_place;
            i_up = i_up;
            k_up = other.2;
            j_down = found.2;
            l_down = lower.2;
          } in
          let up = beside firm.count i other.0 k_place (twice_is_null firm x y i other.0 k_place other.2) in
          let down = beside firm.count found.0 lower.0 l_place (twice_is_null firm y x found.0 lower.0 l_place lower.2)
          in
          moves_from_quad firm x y i found.0 other.0 lower.0 up.0 down.0 at up.1 down.1
          (y_from firm x y i found.0 other.0 lower.0 x_own y_own at apart)
          (quads (move firm.count x i other.0) (move-within firm.count x i other.0 x_own))
    ]

pub none_fails_from_quads : (firm : Firm) → HasOwnBundles firm → HasEveryBundle firm → QuadsExchange firm
    → NoneFails firm
none_fails_from_quads firm own every quads =
    none_fails_from_exchange firm (exchange_from_places firm own
    (exchanges_over_places firm own every (exchanges_everywhere firm (exchanges_from_quads firm quads))))

-- From exchange to four places.

-- the level of a trade in a bundle with two free places more
level_joined : (n buys z p q k : ℕ) → k < n → p ≢ q → IsFree n buys z p → k ≡ p → trade_level buys (move n z p q) k ≡ 1
unfolding move
level_joined n buys z p q k trade apart free e =
    let p_trade : p < n = omega (arith, trade, e) in
    let low = free.1 p_trade in
    let turned = level-here n buys z p p_trade in
    let kept = level-elsewhere n buys (toggle_at n z p) q p apart in
    subst (λ (u : ℕ). trade_level buys (toggle_at n (toggle_at n z p) q) u ≡ 1) (sym e)
    (omega (arith, low, turned, kept))

level_left : (n buys z p q k : ℕ) → k ≢ p → k ≢ q → trade_level buys (move n z p q) k ≡ trade_level buys z k
unfolding move
level_left n buys z p q k first second = level-elsewhere n buys (toggle_at n z p) q k second
    ∙ level-elsewhere n buys z p k first

-- a trade above in one of two bundles with two free places more is one of its two
which_above : (n buys z p q r s k : ℕ) → k < n → p ≢ q → IsFree n buys z p → IsFree n buys z q
    → trade_level buys (move n z p q) k < trade_level buys (move n z r s) k → (k ≡ r) ⊎ (k ≡ s)
which_above n buys z p q r s k trade apart p_free q_free below = elim (cases_eq k r) [
  | inl e ↦ inl e
  | inr not_r ↦ elim (cases_eq k s) [
    | inl e ↦ inr e
    | inr not_s ↦
        let kept = level_left n buys z r s k not_r not_s in
        let small = trade_level-le buys (move n z r s) k in
        elim (cases_eq k p) [
          | inl e ↦
              let one = level_joined n buys z p q k trade apart p_free e in
              absurd (omega (arith, one, small, below))
          | inr not_p ↦ elim (cases_eq k q) [
            | inl e ↦
                let turned : trade_level buys (move n z p q) k ≡ trade_level buys (move n z q p) k =
                ap (λ (w : ℕ). trade_level buys w k) ((places n 0).order z p q) in
                let one = level_joined n buys z q p k trade (λ f. apart (sym f)) q_free e in
                absurd (omega (arith, turned, one, small, below))
            | inr not_q ↦
                let same = level_left n buys z p q k not_p not_q in
                absurd (omega (arith, same, kept, below))
          ]
        ]
  ]
]

-- how much of null's level two free places take
null_joined : (n buys z p q : ℕ) → p ≢ q → p < n → q < n → IsFree n buys z p → IsFree n buys z q
    → null_level n buys (move n z p q) + 2 ≡ null_level n buys z
unfolding move
null_joined n buys z p q apart p_trade q_trade p_free q_free =
    let first = null-taken n buys z p p_trade (p_free.1 p_trade) in
    let kept = level-elsewhere n buys z p q (λ e. apart (sym e)) in
    let low = q_free.1 q_trade in
    let second = null-taken n buys (toggle_at n z p) q q_trade (omega (arith, kept, low)) in
    omega (arith, first, second)

null_most : (n buys z p q : ℕ) → p ≢ q → IsFree n buys z p → IsFree n buys z q
    → null_level n buys z ≤ null_level n buys (move n z p q) + 2
unfolding move
null_most n buys z p q apart p_free q_free = elim (cases_lt p n) [
  | inl p_trade ↦
      let first = null-taken n buys z p p_trade (p_free.1 p_trade) in
      elim (cases_lt q n) [
        | inl q_trade ↦
            let both = null_joined n buys z p q apart p_trade q_trade p_free q_free in
            omega (arith, both)
        | inr q_null ↦
            let second = null-kept n buys (toggle_at n z p) q q_null in
            omega (arith, first, second)
      ]
  | inr p_null ↦
      let first = null-kept n buys z p p_null in
      elim (cases_lt q n) [
        | inl q_trade ↦
            let kept = level-elsewhere n buys z p q (λ e. apart (sym e)) in
            let low = q_free.1 q_trade in
            let second = null-taken n buys (toggle_at n z p) q q_trade (omega (arith, kept, low)) in
            omega (arith, first, second)
        | inr q_null ↦
            let second = null-kept n buys (toggle_at n z p) q q_null in
            omega (arith, first, second)
      ]
]

-- toggled at null twice, a bundle is as before
null_left : (n buys z p q : ℕ) → n ≤ p → n ≤ q → null_level n buys (move n z p q) ≡ null_level n buys z
unfolding move
null_left n buys z p q first second = null-kept n buys (toggle_at n z p) q second ∙ null-kept n buys z p first

-- a place of the down side stands for one of the two places that y has more
which_down : (n buys z p q r s j : ℕ) → AreFourFree n buys z p q r s → j ≤ n
    → level n buys (move n z p q) j < level n buys (move n z r s) j → AreAlike n j r ⊎ AreAlike n j s
which_down n buys z p q r s j four place below = elim (cases_lt j n) [
  | inl trade ↦
      let first = level-trade n buys (move n z p q) j trade in
      let second = level-trade n buys (move n z r s) j trade in
      elim (which_above n buys z p q r s j trade four.apart.0 four.free.0 four.free.1
      (omega (arith, first, second, below))) [
        | inl e ↦ inl (alike_same n j r e)
        | inr e ↦ inr (alike_same n j s e)
      ]
  | inr null ↦ elim (cases_lt r n) [
    | inr r_null ↦ inl (alike_null n j r null r_null)
    | inl r_trade ↦ elim (cases_lt s n) [
      | inr s_null ↦ inr (alike_null n j s null s_null)
      | inl s_trade ↦
          let e : n ≡ j = omega (arith, place, null) in
          let at_null : level n buys (move n z p q) n < level n buys (move n z r s) n =
          subst (λ (k : ℕ). level n buys (move n z p q) k < level n buys (move n z r s) k) (sym e) below in
          let first = level-null n buys (move n z p q) in
          let second = level-null n buys (move n z r s) in
          let most = null_most n buys z p q four.apart.0 four.free.0 four.free.1 in
          let taken = null_joined n buys z r s four.apart.5 r_trade s_trade four.free.2 four.free.3 in
          absurd (omega (arith, at_null, first, second, most, taken))
    ]
  ]
]

-- of the three sums, that of p and q is not above both others
abbrev IsNotAbove : Firm → ℕ → ℕ → ℕ → ℕ → ℕ → Type 0
IsNotAbove firm z p q r s = (parted firm z p q r s ≤ℤ parted firm z p r q s)
    ⊎ (parted firm z p q r s ≤ℤ parted firm z p s q r)

-- two bundles that exchange at p say so
not_above : (firm : Firm) → HasEveryBundle firm → ExchangesOverPlaces firm → (z p q r s i : ℕ) → z < 2 ^ firm.count
    → AreFourFree firm.count firm.buys z p q r s → AreAlike firm.count i p → i ≤ firm.count
    → level firm.count firm.buys (move firm.count z r s) i < level firm.count firm.buys (move firm.count z p q) i
    → IsNotAbove firm z p q r s
not_above firm every exchange z p q r s i own four alike place up =
    elim (which_down firm.count firm.buys z p q r s swap.at four swap.is_place swap.is_down) [
      | inl r_alike ↦ inr (
          let c = same_value firm _ _ (move-alike firm.count (move firm.count z p q) i swap.at p r alike r_alike
          ∙ move-first firm.count z p q r) in
          let d = same_value firm _ _ (move-alike firm.count (move firm.count z r s) i swap.at p r alike r_alike
          ∙ y_moved r s refl) in
          let m = moved in
          omega (arith, ints, m, c, d))
      | inr s_alike ↦ inl (
          let c = same_value firm _ _ (move-alike firm.count (move firm.count z p q) i swap.at p s alike s_alike
          ∙ move-first firm.count z p q s) in
          let d = same_value firm _ _ (move-alike firm.count (move firm.count z r s) i swap.at p s alike s_alike
          ∙ y_moved s r ((places firm.count 0).order z r s)) in
          let m = moved in
          omega (arith, ints, m, c, d))
    ]
  where
    x_is : firm.worth (move firm.count z p q) ≡ Some (value firm (move firm.count z p q))
    x_is = value_is firm every (move firm.count z p q) (move-within firm.count z p q own)

    y_is : firm.worth (move firm.count z r s) ≡ Some (value firm (move firm.count z r s))
    y_is = value_is firm every (move firm.count z r s) (move-within firm.count z r s own)

    swap : SwapsAt firm (move firm.count z p q) (move firm.count z r s) (parted firm z p q r s) i
    swap = exchange (move firm.count z p q) (move firm.count z r s) _ _ x_is y_is i place up

    moved : parted firm z p q r s ≤ℤ (value firm (move firm.count (move firm.count z p q) i swap.at)
        +ℤ value firm (move firm.count (move firm.count z r s) i swap.at))
    moved = enough_value firm _ _ _ _ _ refl refl swap.enough

    y_moved : (u v : ℕ) → move firm.count z r s ≡ move firm.count z u v
        → move firm.count (move firm.count z r s) p u ≡ move firm.count z p v
    y_moved u v is =
        ap (λ (w : ℕ). move firm.count w p u) (is ∙ (places firm.count 0).order z u v) ∙ move-second firm.count z v u p
        ∙ (places firm.count 0).order z v p

-- with a trade as its first place
not_above_at_trade : (firm : Firm) → HasEveryBundle firm → ExchangesOverPlaces firm → (z p q r s : ℕ)
    → z < 2 ^ firm.count
    → AreFourFree firm.count firm.buys z p q r s → p < firm.count → IsNotAbove firm z p q r s
not_above_at_trade firm every exchange z p q r s own four trade =
    let one = level_joined firm.count firm.buys z p q p trade four.apart.0 four.free.0 refl in
    let kept = level_left firm.count firm.buys z r s p four.apart.1 four.apart.2 in
    let low = four.free.0.1 trade in
    let first = level-trade firm.count firm.buys (move firm.count z p q) p trade in
    let second = level-trade firm.count firm.buys (move firm.count z r s) p trade in
    not_above firm every exchange z p q r s p own four (λ w. refl) (omega (arith, trade))
    (omega (arith, one, kept, low, first, second))

-- the first two places change places
turned : (firm : Firm) (z p q r s : ℕ) → IsNotAbove firm z q p r s → IsNotAbove firm z p q r s
turned firm z p q r s (inl most) = inr (
    let a = same_value firm _ _ ((places firm.count 0).order z p q) in
    omega (arith, ints, most, a))
turned firm z p q r s (inr most) = inl (
    let a = same_value firm _ _ ((places firm.count 0).order z p q) in
    omega (arith, ints, most, a))

four_turned : (n buys z p q r s : ℕ) → AreFourFree n buys z p q r s → AreFourFree n buys z q p r s
four_turned n buys z p q r s four = record {
  free = (four.free.1, four.free.0, four.free.2, four.free.3);
  apart = ((λ e. four.apart.0 (sym e)), four.apart.3, four.apart.4, four.apart.1, four.apart.2, four.apart.5);
}

-- with null twice as its first two
not_above_at_null : (firm : Firm) → HasEveryBundle firm → ExchangesOverPlaces firm → (z p q r s : ℕ)
    → z < 2 ^ firm.count
    → AreFourFree firm.count firm.buys z p q r s → firm.count ≤ p → firm.count ≤ q → IsNotAbove firm z p q r s
not_above_at_null firm every exchange z p q r s own four p_null q_null =
    let p_most = four.free.0.0 in
    let q_most = four.free.1.0 in
    let r_most = four.free.2.0 in
    let s_most = four.free.3.0 in
    let r_trade : r < firm.count = trade p q r p_null q_null p_most q_most r_most four.apart.0 four.apart.1 four.apart.3
    in
    let s_trade : s < firm.count = trade p q s p_null q_null p_most q_most s_most four.apart.0 four.apart.2 four.apart.4
    in
    let taken = null_joined firm.count firm.buys z r s four.apart.5 r_trade s_trade four.free.2 four.free.3 in
    let kept : null_level firm.count firm.buys (move firm.count z p q) ≡ null_level firm.count firm.buys z =
    null_left firm.count firm.buys z p q p_null q_null in
    let first = level-null firm.count firm.buys (move firm.count z p q) in
    let second = level-null firm.count firm.buys (move firm.count z r s) in
    not_above firm every exchange z p q r s firm.count own four
    (alike_null firm.count firm.count p (omega arith) p_null) (omega arith)
    (omega (arith, taken, kept, first, second))
  where
    trade : (a b c : ℕ) → firm.count ≤ a → firm.count ≤ b → a ≤ firm.count + 1 → b ≤ firm.count + 1 → c ≤ firm.count + 1
        → a ≢ b → a ≢ c → b ≢ c → c < firm.count
    trade a b c a_null b_null a_most b_most c_most d e f =
        omega (arith, a_null, b_null, a_most, b_most, c_most, d, e, f)

quads_from_exchange : (firm : Firm) → HasEveryBundle firm → ExchangesOverPlaces firm → QuadsExchange firm
quads_from_exchange firm every exchange z own p q r s four = elim (cases_lt p firm.count) [
  | inl p_trade ↦ not_above_at_trade firm every exchange z p q r s own four p_trade
  | inr p_null ↦ elim (cases_lt q firm.count) [
    | inl q_trade ↦
        turned firm z p q r s (not_above_at_trade firm every exchange z q p r s own
        (four_turned firm.count firm.buys z p q r s four) q_trade)
    | inr q_null ↦ not_above_at_null firm every exchange z p q r s own four p_null q_null
  ]
]

-- so the two are the same
pub quads_decide : QuadsDecide
quads_decide firm own every = (
  (λ quads x y at close. none_fails_from_quads firm own every quads x y at),
  λ none. quads_from_exchange firm every
      (exchange_to_places firm own (exchange_from_none_fails firm own (close_pairs_decide firm own every none))),
)
