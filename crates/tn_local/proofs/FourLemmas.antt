-- Two bundles that are four places apart: they are close, and what their exchange comes to.
use Rattle.std.proofs.Common.{◌≡◌, ◌≢◌, ℕ, ◌+◌, ◌^◌, ◌<◌, ◌≤◌, sym, ap, ◌∙◌, subst, arith, ◌⊎◌, inl, inr, ℤ, ◌+ℤ◌}
use Rattle.std.specs.Prelude.{Option, Some}
use Rattle.std.proofs.lemmas.Bool.{cases_eq}
use Rattle.std.proofs.lemmas.Int.{ints}
use Rattle.tn_base.specs.Firm.{Firm}
use Rattle.tn_base.specs.Exchange.{AreEnough, Fails}
use Rattle.tn_firm_laws.specs.Places.{level, move, toggle_at, one_at, CanRise, CanFall, SwapsAt}
use Rattle.tn_firm_laws.specs.Close.{AreClose}
use Rattle.tn_firm_laws.proofs.SumLemmas.{one_at-same, one_at-other}
use Rattle.tn_firm_laws.proofs.PlaceLemmas.{places}
use Rattle.tn_firm_laws.proofs.DistanceLemmas.{gap, gap-nearer}
use Rattle.tn_firm_laws.proofs.CloseMoves.{gap-itself}
use Rattle.tn_firm_laws.proofs.ClosePairs.{close_from_gap, no_failure_from_swaps}

-- y is x with a and b lowered, and c and d raised
pub record AreFourApart (firm : Firm) (x y a b c d : ℕ) : Type 0 where
  pub a_place : a ≤ firm.count
  pub b_place : b ≤ firm.count
  pub c_place : c ≤ firm.count
  pub d_place : d ≤ firm.count
  pub a_falls : CanFall firm.count (level firm.count firm.buys x) a
  pub b_falls : CanFall firm.count (level firm.count firm.buys x) b
  pub c_rises : CanRise firm.count (level firm.count firm.buys x) c
  pub d_rises : CanRise firm.count (level firm.count firm.buys x) d
  pub a_c : a ≢ c
  pub a_d : a ≢ d
  pub b_c : b ≢ c
  pub b_d : b ≢ d
  pub a_b : b < firm.count → a ≢ b
  pub c_d : d < firm.count → c ≢ d
  pub c_d' : c < firm.count → c ≢ d
  pub is : y ≡ move firm.count (move firm.count x a c) b d

-- toggles at two places may be taken in either order
swap : (n x i j : ℕ) → toggle_at n (toggle_at n x i) j ≡ toggle_at n (toggle_at n x j) i
unfolding move
swap n x i j = (places n 0).order x i j

-- two moves may change their second places
pub moves_cross : (n x a b c d : ℕ) → move n (move n x a c) b d ≡ move n (move n x a d) b c
unfolding move
moves_cross n x a b c d =
    ap (λ (z : ℕ). toggle_at n z d) (swap n (toggle_at n x a) c b)
    ∙ swap n (toggle_at n (toggle_at n x a) b) c d
    ∙ ap (λ (z : ℕ). toggle_at n z c) (swap n (toggle_at n x a) b d)

-- two moves may be taken in either order
moves_swap : (n x a b c d : ℕ) → move n (move n x a c) b d ≡ move n (move n x b d) a c
unfolding move
moves_swap n x a b c d =
    ap (λ (z : ℕ). toggle_at n z d) (swap n (toggle_at n x a) c b ∙ ap (λ (z : ℕ). toggle_at n z c) (swap n x a b))
    ∙ swap n (toggle_at n (toggle_at n x b) a) c d
    ∙ ap (λ (z : ℕ). toggle_at n z c) (swap n (toggle_at n x b) a d)

-- a move taken twice is none
move_twice : (n x i j : ℕ) → move n (move n x i j) i j ≡ x
move_twice n x i j =
    let are = places n 0 in
    ap (λ (z : ℕ). move n z i j) (are.order x i j) ∙ are.through x j i j ∙ are.same x j

-- four places apart, whichever way the second places are paired
pub four_crossed : (firm : Firm) (x y a b c d : ℕ) → AreFourApart firm x y a b c d → AreFourApart firm x y a b d c
four_crossed firm x y a b c d four = record {
  a_place = four.a_place;
  b_place = four.b_place;
  c_place = four.d_place;
  d_place = four.c_place;
  a_falls = four.a_falls;
  b_falls = four.b_falls;
  c_rises = four.d_rises;
  d_rises = four.c_rises;
  a_c = four.a_d;
  a_d = four.a_c;
  b_c = four.b_d;
  b_d = four.b_c;
  a_b = four.a_b;
  c_d = λ h e. four.c_d' h (sym e);
  c_d' = λ h e. four.c_d h (sym e);
  is = four.is ∙ moves_cross firm.count x a b c d;
}

-- the levels after the first move
first_levels : (firm : Firm) (x y a b c d : ℕ) → AreFourApart firm x y a b c d → (k : ℕ) → k ≤ firm.count
    → level firm.count firm.buys (move firm.count x a c) k + one_at a k ≡ level firm.count firm.buys x k + one_at c k
first_levels firm x y a b c d four k place =
    let are = places firm.count firm.buys in
    subst (λ (z : ℕ). level firm.count firm.buys z k + one_at a k ≡ level firm.count firm.buys x k + one_at c k)
    (are.order x c a)
    (are.levels x c a k four.c_place four.a_place (λ e. four.a_c (sym e)) four.c_rises four.a_falls place)

-- the levels of both bundles
pub four_levels : (firm : Firm) (x y a b c d : ℕ) → AreFourApart firm x y a b c d → (k : ℕ) → k ≤ firm.count
    → level firm.count firm.buys y k + (one_at a k + one_at b k) ≡ level firm.count firm.buys x k
    + (one_at c k + one_at d k)
four_levels firm x y a b c d four k place =
    let are = places firm.count firm.buys in
    let second : level firm.count firm.buys y k + one_at b k ≡ level firm.count firm.buys (move firm.count x a c) k
    + one_at d k =
    subst (λ (z : ℕ). level firm.count firm.buys z k + one_at b k ≡ level firm.count firm.buys (move firm.count x a c) k
    + one_at d k)
    (are.order (move firm.count x a c) d b ∙ sym four.is)
    (are.levels (move firm.count x a c) d b k four.d_place four.b_place (λ e. four.b_d (sym e)) rises falls place) in
    let first = first_levels firm x y a b c d four k place in
    omega (arith, first, second)
  where
    rises : CanRise firm.count (level firm.count firm.buys (move firm.count x a c)) d
    rises p =
        let d_place = four.d_place in
        let first = first_levels firm x y a b c d four d d_place in
        let low = four.d_rises p in
        let not_a = one_at-other a d four.a_d in
        let not_c = one_at-other c d (four.c_d p) in
        omega (arith, first, low, not_a, not_c)

    falls : CanFall firm.count (level firm.count firm.buys (move firm.count x a c)) b
    falls p =
        let b_place = four.b_place in
        let first = first_levels firm x y a b c d four b b_place in
        let high = four.b_falls p in
        let not_a = one_at-other a b (four.a_b p) in
        let not_c = one_at-other c b (λ e. four.b_c (sym e)) in
        omega (arith, first, high, not_a, not_c)

-- the first two places are lower in y, and the other two higher
a_is_up : (firm : Firm) (x y a b c d : ℕ) → AreFourApart firm x y a b c d
    → level firm.count firm.buys y a < level firm.count firm.buys x a
a_is_up firm x y a b c d four =
    let levels = four_levels firm x y a b c d four a four.a_place in
    let one = one_at-same a in
    let not_c = one_at-other c a (λ e. four.a_c (sym e)) in
    let not_d = one_at-other d a (λ e. four.a_d (sym e)) in
    omega (arith, levels, one, not_c, not_d)

c_is_down : (firm : Firm) (x y a b c d : ℕ) → AreFourApart firm x y a b c d
    → level firm.count firm.buys x c < level firm.count firm.buys y c
c_is_down firm x y a b c d four =
    let levels = four_levels firm x y a b c d four c four.c_place in
    let one = one_at-same c in
    let not_a = one_at-other a c four.a_c in
    let not_b = one_at-other b c four.b_c in
    omega (arith, levels, one, not_a, not_b)

-- y moved at the first pair is x moved at the second
back_first : (firm : Firm) (x y a b c d : ℕ) → AreFourApart firm x y a b c d
    → move firm.count y a c ≡ move firm.count x b d
back_first firm x y a b c d four =
    ap (λ (z : ℕ). move firm.count z a c) (four.is ∙ moves_swap firm.count x a b c d)
    ∙ move_twice firm.count (move firm.count x b d) a c

back_second : (firm : Firm) (x y a b c d : ℕ) → AreFourApart firm x y a b c d
    → move firm.count y b d ≡ move firm.count x a c
back_second firm x y a b c d four =
    ap (λ (z : ℕ). move firm.count z b d) four.is ∙ move_twice firm.count (move firm.count x a c) b d

-- they are close
pub four_close : (firm : Firm) (x y a b c d : ℕ) → x < 2 ^ firm.count → y < 2 ^ firm.count
    → AreFourApart firm x y a b c d → AreClose firm.buys x y
four_close firm x y a b c d x_own y_own four =
    let are = places firm.count firm.buys in
    let first = gap-nearer firm.count (level firm.count firm.buys) (move firm.count) are x y a c four.a_place
    four.c_place
    (a_is_up firm x y a b c d four) (c_is_down firm x y a b c d four) in
    let back : gap firm.count (level firm.count firm.buys x) (level firm.count firm.buys (move firm.count y a c))
    ≡ gap firm.count (level firm.count firm.buys x) (level firm.count firm.buys (move firm.count x b d)) =
    ap (λ (z : ℕ). gap firm.count (level firm.count firm.buys x) (level firm.count firm.buys z))
    (back_first firm x y a b c d four) in
    let second =
    gap-nearer firm.count (level firm.count firm.buys) (move firm.count) are x (move firm.count x b d) b d
    four.b_place four.d_place b_up d_down in
    let again : gap firm.count (level firm.count firm.buys x)
    (level firm.count firm.buys (move firm.count (move firm.count x b d) b d))
    ≡ gap firm.count (level firm.count firm.buys x) (level firm.count firm.buys x) =
    ap (λ (z : ℕ). gap firm.count (level firm.count firm.buys x) (level firm.count firm.buys z))
    (move_twice firm.count x b d) in
    let none = gap-itself firm x in
    close_from_gap firm x y x_own y_own (omega (arith, first, back, second, again, none))
  where
    levels : (k : ℕ) → k ≤ firm.count
        → level firm.count firm.buys (move firm.count x b d) k + one_at b k ≡ level firm.count firm.buys x k
        + one_at d k
    levels k place =
        subst (λ (z : ℕ). level firm.count firm.buys z k + one_at b k ≡ level firm.count firm.buys x k + one_at d k)
        ((places firm.count firm.buys).order x d b)
        ((places firm.count firm.buys).levels x d b k four.d_place four.b_place (λ e. four.b_d (sym e)) four.d_rises
        four.b_falls place)

    b_up : level firm.count firm.buys (move firm.count x b d) b < level firm.count firm.buys x b
    b_up =
        let at_b = levels b four.b_place in
        let one = one_at-same b in
        let none = one_at-other d b (λ e. four.b_d (sym e)) in
        omega (arith, at_b, one, none)

    d_down : level firm.count firm.buys x d < level firm.count firm.buys (move firm.count x b d) d
    d_down =
        let at_d = levels d four.d_place in
        let one = one_at-same d in
        let none = one_at-other b d four.b_d in
        omega (arith, at_d, one, none)

-- a place of the up side is one of the two that were lowered
up_is_lowered : (firm : Firm) (x y a b c d : ℕ) → AreFourApart firm x y a b c d → (i : ℕ) → i ≤ firm.count
    → level firm.count firm.buys y i < level firm.count firm.buys x i → (i ≡ a) ⊎ (i ≡ b)
up_is_lowered firm x y a b c d four i place up = elim (cases_eq i a) [
  | inl e ↦ inl e
  | inr not_a ↦ elim (cases_eq i b) [
    | inl e ↦ inr e
    | inr not_b ↦
        let levels = four_levels firm x y a b c d four i place in
        let none_a = one_at-other a i (λ e. not_a (sym e)) in
        let none_b = one_at-other b i (λ e. not_b (sym e)) in
        absurd (omega (arith, levels, none_a, none_b, up))
  ]
]

-- enough in one order is enough in the other
enough_turned : (firm : Firm) (x y : ℕ) (total : ℤ) → AreEnough firm x y total → AreEnough firm y x total
enough_turned firm x y total e = record {
  first = e.second;
  second = e.first;
  first_is = e.second_is;
  second_is = e.first_is;
  enough = (let enough = e.enough in omega (arith, ints, enough));
}

-- where the first way of pairing is enough, every place of the up side swaps
swaps_by_pairs : (firm : Firm) (x y a b c d : ℕ) (total : ℤ) → AreFourApart firm x y a b c d
    → AreEnough firm (move firm.count x a c) (move firm.count x b d) total
    → (i : ℕ) → i ≤ firm.count → level firm.count firm.buys y i < level firm.count firm.buys x i
    → SwapsAt firm x y total i
swaps_by_pairs firm x y a b c d total four enough i place up = elim (up_is_lowered firm x y a b c d four i place up) [
  | inl e ↦ subst (SwapsAt firm x y total) (sym e) (record {
    at = c;
    is_place = four.c_place;
    is_down = c_is_down firm x y a b c d four;
    enough = subst (λ (z : ℕ). AreEnough firm (move firm.count x a c) z total) (sym (back_first firm x y a b c d four))
        enough;
  })
  | inr e ↦ subst (SwapsAt firm x y total) (sym e) (record {
    at = d;
    is_place = four.d_place;
    is_down = c_is_down firm x y a b d c (four_crossed firm x y a b c d four);
    enough = subst (λ (z : ℕ). AreEnough firm (move firm.count x b d) z total) (sym (back_second firm x y a b c d four))
        (enough_turned firm (move firm.count x a c) (move firm.count x b d) total enough);
  })
]

-- where one of the two ways of pairing is enough, no triple of the two bundles fails
pub four_hold : (firm : Firm) (x y a b c d : ℕ) (s t : ℤ) → x < 2 ^ firm.count → y < 2 ^ firm.count
    → firm.worth x ≡ Some s → firm.worth y ≡ Some t → AreFourApart firm x y a b c d
    → AreEnough firm (move firm.count x a c) (move firm.count x b d) (s +ℤ t)
    ⊎ AreEnough firm (move firm.count x a d) (move firm.count x b c) (s +ℤ t)
    → (at : Option ℕ) → Fails firm x y at → ⊥
four_hold firm x y a b c d s t x_own y_own x_is y_is four (inl enough) =
    no_failure_from_swaps firm x y s t x_own y_own x_is y_is (swaps_by_pairs firm x y a b c d (s +ℤ t) four enough)
four_hold firm x y a b c d s t x_own y_own x_is y_is four (inr enough) =
    no_failure_from_swaps firm x y s t x_own y_own x_is y_is
    (swaps_by_pairs firm x y a b d c (s +ℤ t) (four_crossed firm x y a b c d four) enough)
