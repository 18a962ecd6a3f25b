-- Exchange between close bundles gives exchange between all: one step further apart.
use Rattle.std.proofs.Common.{◌≡◌, ◌≢◌, ℕ, zero, suc, ◌+◌, ◌^◌, ◌<◌, ◌≤◌, refl, sym, ap, ◌∙◌, subst, arith, inl, inr, ◌+ℤ◌}
use Rattle.std.specs.Prelude.{◌≤ℤ◌}
use Rattle.std.proofs.lemmas.Bool.{cases_eq}
use Rattle.std.proofs.lemmas.Int.{ints}
use Rattle.tn_base.specs.Firm.{Firm}
use Rattle.tn_firm_laws.specs.Places.{level, move, one_at}
use Rattle.tn_firm_laws.specs.Quads.{value}
use Rattle.tn_firm_laws.proofs.SumLemmas.{one_at-same, one_at-other}
use Rattle.tn_firm_laws.proofs.PlaceLemmas.{places}
use Rattle.tn_firm_laws.proofs.DistanceLemmas.{up_moves, up_apart_down, gap, gap-nearer}
use Rattle.tn_firm_laws.proofs.CloseMoves.{move-within, gap-itself, Moves, ExchangesAt, DoesNotExchange, Chosen, chosen, moves_or_loses, exchanges_at_one}

-- what a move of one unit from place j to place i, of the up side of x and y, does to the levels of y
pub levels_of : (firm : Firm) (x y i j k : ℕ) → i ≤ firm.count → j ≤ firm.count
    → level firm.count firm.buys y i < level firm.count firm.buys x i
    → level firm.count firm.buys x j < level firm.count firm.buys y j → k ≤ firm.count
    → level firm.count firm.buys (move firm.count y i j) k + one_at j k ≡ level firm.count firm.buys y k + one_at i k
levels_of firm x y i j k i_place j_place i_up j_down k_place =
    let are = places firm.count firm.buys in
    are.levels y i j k i_place j_place (up_apart_down (level firm.count firm.buys x) (level firm.count firm.buys y) i j
    i_up j_down)
    (up_moves firm.count (level firm.count firm.buys) (move firm.count) are x y i i_up).0
    (up_moves firm.count (level firm.count firm.buys) (move firm.count) are y x j j_down).1 k_place

-- y with the chosen unit more, z with one of u beside it, and where they stand
record Between (firm : Firm) (x y u up down v : ℕ) (y' z : ℕ) : Type 0 where
  y'_is : y' ≡ move firm.count y up down
  z_is : z ≡ move firm.count y' u v
  v_place : v ≤ firm.count
  -- v is of the down side of x and y too
  v_down : level firm.count firm.buys x v < level firm.count firm.buys y v
  -- z is close to y, which is below it at u
  z_up : level firm.count firm.buys y u < level firm.count firm.buys z u
  z_close : gap firm.count (level firm.count firm.buys z) (level firm.count firm.buys y) ≡ 2
  -- and above it at the two places that were lowered alone
  z_down : (j : ℕ) → j ≤ firm.count → level firm.count firm.buys z j < level firm.count firm.buys y j → j ≢ v → j ≡ down

-- the chosen unit brings y nearer to x, where u is still on the up side
nearer_up : (firm : Firm) (d x y u up down : ℕ) → DoesNotExchange firm d x y u → Chosen firm x y u up down
    → level firm.count firm.buys (move firm.count y up down) u < level firm.count firm.buys x u
nearer_up firm d x y u up down here c =
    let u_place = here.u_place in
    let u_up = here.u_up in
    let is_up = c.is_up in
    let levels = levels_of firm x y up down u c.up_place c.down_place (omega (arith, is_up)) c.is_down u_place in
    elim (cases_eq up u) [
      | inl e ↦
          let again : level firm.count firm.buys y u + one_at u u < level firm.count firm.buys x u =
          subst (λ (k : ℕ). level firm.count firm.buys y k + one_at u k < level firm.count firm.buys x k) e is_up in
          let one = one_at-same u in
          let other : one_at up u ≡ 1 = subst (λ (k : ℕ). one_at k u ≡ 1) (sym e) one in
          omega (arith, levels, again, one, other)
      | inr apart ↦
          let none = one_at-other up u apart in
          omega (arith, levels, none, u_up)
    ]

-- the place that answers u for x and the nearer bundle
between : (firm : Firm) (d x y u up down v : ℕ) → DoesNotExchange firm d x y u → Chosen firm x y u up down
    → v ≤ firm.count
    → level firm.count firm.buys x v < level firm.count firm.buys (move firm.count y up down) v
    → Between firm x y u up down v (move firm.count y up down) (move firm.count (move firm.count y up down) u v)
between firm d x y u up down v here c v_place v_nearer = record {
  y'_is = refl;
  z_is = refl;
  v_place = v_place;
  v_down = v_down;
  z_up = z_up;
  z_close = z_close;
  z_down = z_down;
}
  where
    u_place : u ≤ firm.count
    u_place = here.u_place

    up_place : up ≤ firm.count
    up_place = c.up_place

    down_place : down ≤ firm.count
    down_place = c.down_place

    up_up : level firm.count firm.buys y up < level firm.count firm.buys x up
    up_up = let is_up = c.is_up in omega (arith, is_up)

    levels' : (k : ℕ) → k ≤ firm.count
        → level firm.count firm.buys (move firm.count y up down) k + one_at down k ≡ level firm.count firm.buys y k
        + one_at up k
    levels' k place = levels_of firm x y up down k up_place down_place up_up c.is_down place

    u_nearer : level firm.count firm.buys (move firm.count y up down) u < level firm.count firm.buys x u
    u_nearer = nearer_up firm d x y u up down here c

    levels : (k : ℕ) → k ≤ firm.count
        → level firm.count firm.buys (move firm.count (move firm.count y up down) u v) k + one_at v k
        ≡ level firm.count firm.buys (move firm.count y up down) k + one_at u k
    levels k place = levels_of firm x (move firm.count y up down) u v k u_place v_place u_nearer v_nearer place

    up_apart_v : up ≢ v
    up_apart_v e =
        let at_up : level firm.count firm.buys x up < level firm.count firm.buys (move firm.count y up down) up =
        subst (λ (k : ℕ). level firm.count firm.buys x k < level firm.count firm.buys (move firm.count y up down) k)
        (sym e) v_nearer in
        let changed = levels' up up_place in
        let one = one_at-same up in
        let up_is = up_up in
        absurd (omega (arith, at_up, changed, one, up_is))

    u_apart_v : u ≢ v
    u_apart_v = up_apart_down (level firm.count firm.buys x) (level firm.count firm.buys (move firm.count y up down)) u
        v u_nearer v_nearer

    u_apart_down : u ≢ down
    u_apart_down =
        up_apart_down (level firm.count firm.buys x) (level firm.count firm.buys y) u down here.u_up c.is_down

    up_apart_down' : up ≢ down
    up_apart_down' = up_apart_down (level firm.count firm.buys x) (level firm.count firm.buys y) up down up_up c.is_down

    v_down : level firm.count firm.buys x v < level firm.count firm.buys y v
    v_down =
        let changed = levels' v v_place in
        let none = one_at-other up v up_apart_v in
        let nearer = v_nearer in
        omega (arith, changed, none, nearer)

    z_up : level firm.count firm.buys y u < level firm.count firm.buys (move firm.count (move firm.count y up down) u v)
        u
    z_up =
        let first = levels' u u_place in
        let second = levels u u_place in
        let one = one_at-same u in
        let none = one_at-other v u (λ e. u_apart_v (sym e)) in
        let neither = one_at-other down u (λ e. u_apart_down (sym e)) in
        omega (arith, first, second, one, none, neither)

    z_above : level firm.count firm.buys (move firm.count y up down) u
        < level firm.count firm.buys (move firm.count (move firm.count y up down) u v) u
    z_above =
        let second = levels u u_place in
        let one = one_at-same u in
        let none = one_at-other v u (λ e. u_apart_v (sym e)) in
        omega (arith, second, one, none)

    z_below : level firm.count firm.buys (move firm.count (move firm.count y up down) u v) v
        < level firm.count firm.buys (move firm.count y up down) v
    z_below =
        let second = levels v v_place in
        let one = one_at-same v in
        let none = one_at-other u v u_apart_v in
        omega (arith, second, one, none)

    z_up_up : level firm.count firm.buys y up < level firm.count firm.buys
        (move firm.count (move firm.count y up down) u v) up
    z_up_up =
        let first = levels' up up_place in
        let second = levels up up_place in
        let one = one_at-same up in
        let none = one_at-other v up (λ e. up_apart_v (sym e)) in
        let neither = one_at-other down up (λ e. up_apart_down' (sym e)) in
        omega (arith, first, second, one, none, neither)

    z_down_down : level firm.count firm.buys (move firm.count (move firm.count y up down) u v) down
        < level firm.count firm.buys y down
    z_down_down =
        let first = levels' down down_place in
        let second = levels down down_place in
        let one = one_at-same down in
        let none = one_at-other u down u_apart_down in
        let neither = one_at-other up down up_apart_down' in
        omega (arith, first, second, one, none, neither)

    z_close : gap firm.count (level firm.count firm.buys (move firm.count (move firm.count y up down) u v))
        (level firm.count firm.buys y) ≡ 2
    z_close =
        let are = places firm.count firm.buys in
        let z : ℕ = move firm.count (move firm.count y up down) u v in
        let first = gap-nearer firm.count (level firm.count firm.buys) (move firm.count) are z y up down up_place
        down_place z_up_up z_down_down in
        let second =
        gap-nearer firm.count (level firm.count firm.buys) (move firm.count) are z (move firm.count y up down) u v
        u_place v_place z_above z_below in
        let none = gap-itself firm z in
        omega (arith, first, second, none)

    z_down : (j : ℕ) → j ≤ firm.count → level firm.count firm.buys (move firm.count (move firm.count y up down) u v) j
        < level firm.count firm.buys y j
        → j ≢ v → j ≡ down
    z_down j place below apart = elim (cases_eq j down) [
      | inl e ↦ e
      | inr other ↦
          let first = levels' j place in
          let second = levels j place in
          let none = one_at-other v j (λ e. apart (sym e)) in
          let neither = one_at-other down j (λ e. other (sym e)) in
          absurd (omega (arith, first, second, none, neither, below))
    ]

-- where u doesn't exchange, the chosen unit leads to a contradiction
no_exchange_is_absurd : (firm : Firm) (d x y u up down : ℕ) → ExchangesAt firm 2 → ExchangesAt firm d
    → DoesNotExchange firm d x y u
    → Chosen firm x y u up down → ⊥
no_exchange_is_absurd firm d x y u up down close before here c =
    at_place found.at (between firm d x y u up down found.at here c found.is_place found.is_down) found.enough
  where
    y'_own : move firm.count y up down < 2 ^ firm.count
    y'_own = move-within firm.count y up down here.y_own

    up_up : level firm.count firm.buys y up < level firm.count firm.buys x up
    up_up = let is_up = c.is_up in omega (arith, is_up)

    near : gap firm.count (level firm.count firm.buys x) (level firm.count firm.buys (move firm.count y up down)) ≡ d
    near =
        let step = gap-nearer firm.count (level firm.count firm.buys) (move firm.count) (places firm.count firm.buys) x
        y up down c.up_place c.down_place up_up c.is_down in
        let far = here.far in
        omega (arith, step, far)

    found : Moves firm x (move firm.count y up down) u
    found = before x (move firm.count y up down) u here.x_own y'_own here.u_place
        (nearer_up firm d x y u up down here c) near

    -- where the two places are the same as those of z
    with_v : (v : ℕ)
        → Between firm x y u up down v (move firm.count y up down) (move firm.count (move firm.count y up down) u v)
        → (value firm x +ℤ value firm (move firm.count y up down))
        ≤ℤ (value firm (move firm.count x u v) +ℤ value firm (move firm.count (move firm.count y up down) u v))
        → (value firm (move firm.count (move firm.count y up down) u v) +ℤ value firm y)
        ≤ℤ (value firm (move firm.count (move firm.count (move firm.count y up down) u v) u v)
        +ℤ value firm (move firm.count y u v)) → ⊥
    with_v v at enough moved =
        let are = places firm.count firm.buys in
        let back : move firm.count (move firm.count (move firm.count y up down) u v) u v ≡ move firm.count y up down =
        are.order (move firm.count (move firm.count y up down) u v) u v ∙ are.through (move firm.count y up down) u v u
        ∙ are.same (move firm.count y up down) u in
        let value_back = ap (value firm) back in
        let v_place = at.v_place in
        let less = here.loses v (omega (arith, v_place)) at.v_down in
        absurd (omega (arith, ints, enough, moved, value_back, less))

    with_down : (v : ℕ)
        → Between firm x y u up down v (move firm.count y up down) (move firm.count (move firm.count y up down) u v)
        → (value firm x +ℤ value firm (move firm.count y up down))
        ≤ℤ (value firm (move firm.count x u v) +ℤ value firm (move firm.count (move firm.count y up down) u v))
        → (value firm (move firm.count (move firm.count y up down) u v) +ℤ value firm y)
        ≤ℤ (value firm (move firm.count (move firm.count (move firm.count y up down) u v) u down)
        +ℤ value firm (move firm.count y u down)) → ⊥
    with_down v at enough moved =
        let are = places firm.count firm.buys in
        let aside : move firm.count (move firm.count (move firm.count y up down) u v) u down ≡ move firm.count y up v =
        ap (λ (z : ℕ). move firm.count z u down) (are.order (move firm.count y up down) u v)
        ∙ are.through (move firm.count y up down) v u down ∙ are.order (move firm.count y up down) v down
        ∙ are.through y up down v in
        let value_aside = ap (value firm) aside in
        let v_place = at.v_place in
        let down_place = c.down_place in
        let less = here.loses down (omega (arith, down_place)) c.is_down in
        let best = c.most v (omega (arith, v_place)) at.v_down in
        absurd (omega (arith, ints, enough, moved, value_aside, less, best))

    at_place : (v : ℕ)
        → Between firm x y u up down v (move firm.count y up down) (move firm.count (move firm.count y up down) u v)
        → (value firm x +ℤ value firm (move firm.count y up down))
        ≤ℤ (value firm (move firm.count x u v) +ℤ value firm (move firm.count (move firm.count y up down) u v)) → ⊥
    at_place v at enough =
        let moved = close (move firm.count (move firm.count y up down) u v) y u
        (move-within firm.count (move firm.count y up down) u v y'_own) here.y_own here.u_place at.z_up at.z_close
        in
        elim (cases_eq moved.at v) [
          | inl e ↦ with_v v at enough
              (subst (λ (j : ℕ). (value firm (move firm.count (move firm.count y up down) u v) +ℤ value firm y)
              ≤ℤ (value firm (move firm.count (move firm.count (move firm.count y up down) u v) u j)
              +ℤ value firm (move firm.count y u j))) e moved.enough)
          | inr apart ↦
              with_down v at enough
              (subst (λ (j : ℕ). (value firm (move firm.count (move firm.count y up down) u v) +ℤ value firm y)
              ≤ℤ (value firm (move firm.count (move firm.count (move firm.count y up down) u v) u j)
              +ℤ value firm (move firm.count y u j)))
              (at.z_down moved.at moved.is_place moved.is_down apart) moved.enough)
        ]

-- one step further apart
exchanges_further : (firm : Firm) (d : ℕ) → 1 ≤ d → ExchangesAt firm 2 → ExchangesAt firm d → ExchangesAt firm (suc d)
exchanges_further firm d far close before x y u x_own y_own u_place u_up apart =
    elim (moves_or_loses firm x y u (suc firm.count) (omega arith)) [
      | inl moves ↦ moves
      | inr loses ↦
          let here : DoesNotExchange firm d x y u =
          record { x_own = x_own; y_own = y_own; u_place = u_place; u_up = u_up; far = apart; loses = loses } in
          let c = chosen firm d x y u far here in
          absurd (no_exchange_is_absurd firm d x y u c.0 c.1.0 close before here c.1.1)
    ]

-- at every distance
pub exchanges_everywhere : (firm : Firm) → ExchangesAt firm 2 → (d : ℕ) → ExchangesAt firm (suc d)
exchanges_everywhere firm close zero = exchanges_at_one firm
exchanges_everywhere firm close (suc zero) = close
exchanges_everywhere firm close (suc (suc d)) =
    exchanges_further firm (suc (suc d)) (omega arith) close (exchanges_everywhere firm close (suc d))
