-- The walk over the bundles close to x: what is known at each position, and what the parts' verdicts come to.
use Rattle.std.proofs.Common.{◌≡◌, ◌≢◌, ℕ, zero, suc, ◌+◌, ◌-◌, ◌^◌, ◌<◌, ◌≤◌, Bool, true, false, not, refl, sym, ap, ◌∙◌, subst, arith, ◌⊎◌, inl, inr, if◌then◌else◌}
use Rattle.std.specs.Prelude.{Option, Some, None, ◌==◌}
use Rattle.std.proofs.lemmas.Bool.{cases_eq, eq-eqb, ne_eqb}
use Rattle.std.proofs.lemmas.Option.{same_Some, none-some}
use Rattle.tn_base.specs.Sets.{has, toggle}
use Rattle.tn_base.specs.Firm.{Firm}
use Rattle.tn_base.proofs.SetLemmas.{has-toggle_same, has-toggle_other, same_below, toggle_within}
use Rattle.tn_firm_laws.specs.Places.{trade_level, level, move, toggle_at, sum_to, one_at, CanRise, CanFall}
use Rattle.tn_firm_laws.specs.Close.{AreClose}
use Rattle.tn_firm_laws.proofs.SumLemmas.{one_at-same, one_at-other, sum_to-le}
use Rattle.tn_firm_laws.proofs.PlaceLemmas.{places, level-trade, toggle_at-trade, toggle_at-null}
use Rattle.tn_firm_laws.proofs.KeepLemmas.{has-toggle_at}
use Rattle.tn_firm_laws.proofs.DistanceLemmas.{gap}
use Rattle.tn_firm_laws.proofs.CloseMoves.{gap-itself, gap-symmetric, move-within, sum_to-single}
use Rattle.tn_firm_laws.proofs.ClosePairs.{distance-gaps}
use Rattle.tn_local.specs.Walk.{IsApartAt, AreApartAt, IsReached, NoneIsClose, IsKnown, with_one_more}
use Rattle.tn_local.specs.declared.walk.Two.{Two}
use Rattle.tn_local.specs.declared.walk.Sides.{Sides}
use Rattle.tn_local.proofs.FourLemmas.{AreFourApart}

-- a firm of which only the trades matter
abbrev bare : ℕ → ℕ → Firm
bare n buys = record { count = n; buys = buys; worth = λ x. None }

-- a trade in just one of two bundles has level 1 in just one of them
levels_differ : (buys x z p : ℕ) → has z p ≡ not (has x p) → trade_level buys z p + trade_level buys x p ≡ 1
unfolding trade_level
levels_differ buys x z p differs = rw differs (by (has buys p) (has x p))
  where
    by : (b h : Bool) → (if b then (if not h then 1 else 0) else (if not h then 0 else 1)) + (if b
        then (if h then 1 else 0) else (if h then 0 else 1)) ≡ 1
    by true true = refl
    by true false = refl
    by false true = refl
    by false false = refl

sum_to-plus : (f g : ℕ → ℕ) (m : ℕ) → sum_to (λ k. f k + g k) m ≡ sum_to f m + sum_to g m
unfolding sum_to
sum_to-plus f g zero = refl
sum_to-plus f g (suc m) =
    let before : sum_to (λ k. f k + g k) m ≡ sum_to f m + sum_to g m = sum_to-plus f g m in
    omega (arith, before)

-- three terms that aren't 0
three_terms : (f : ℕ → ℕ) (p q r m : ℕ) → p < m → q < p → r < q → 1 ≤ f p → 1 ≤ f q → 1 ≤ f r → 3 ≤ sum_to f m
three_terms f p q r m p_below q_below r_below at_p at_q at_r =
    let small = sum_to-le (λ k. one_at p k + (one_at q k + one_at r k)) f m (λ k h. each k) in
    let first = sum_to-plus (one_at p) (λ k. one_at q k + one_at r k) m in
    let second = sum_to-plus (one_at q) (one_at r) m in
    let one_p = sum_to-single p m p_below in
    let one_q = sum_to-single q m (omega (arith, q_below, p_below)) in
    let one_r = sum_to-single r m (omega (arith, r_below, q_below, p_below)) in
    omega (arith, small, first, second, one_p, one_q, one_r)
  where
    each : (k : ℕ) → one_at p k + (one_at q k + one_at r k) ≤ f k
    each k = elim (cases_eq k p) [
      | inl e ↦ subst (λ (i : ℕ). one_at p i + (one_at q i + one_at r i) ≤ f i) (sym e) (
          let one = one_at-same p in
          let not_q = one_at-other q p (λ d. omega (arith, d, q_below)) in
          let not_r = one_at-other r p (λ d. omega (arith, d, q_below, r_below)) in
          omega (arith, one, not_q, not_r, at_p))
      | inr not_p ↦ elim (cases_eq k q) [
        | inl e ↦ subst (λ (i : ℕ). one_at p i + (one_at q i + one_at r i) ≤ f i) (sym e) (
            let one = one_at-same q in
            let not_p = one_at-other p q (λ d. omega (arith, d, q_below)) in
            let not_r = one_at-other r q (λ d. omega (arith, d, r_below)) in
            omega (arith, one, not_p, not_r, at_q))
        | inr not_q ↦ elim (cases_eq k r) [
          | inl e ↦ subst (λ (i : ℕ). one_at p i + (one_at q i + one_at r i) ≤ f i) (sym e) (
              let one = one_at-same r in
              let not_p = one_at-other p r (λ d. omega (arith, d, q_below, r_below)) in
              let not_q = one_at-other q r (λ d. omega (arith, d, r_below)) in
              omega (arith, one, not_p, not_q, at_r))
          | inr not_r ↦
              let none_p = one_at-other p k (λ e. not_p (sym e)) in
              let none_q = one_at-other q k (λ e. not_q (sym e)) in
              let none_r = one_at-other r k (λ e. not_r (sym e)) in
              omega (arith, none_p, none_q, none_r)
        ]
      ]
    ]

-- at a trade of this level one bundle is above the other
one_above : (n buys x z p : ℕ) → p < n → trade_level buys x p ≡ 1 → has z p ≡ not (has x p)
    → 1 ≤ level n buys x p - level n buys z p
one_above n buys x z p below high differs =
    let lx = level-trade n buys x p below in
    let lz = level-trade n buys z p below in
    let other = levels_differ buys x z p differs in
    omega (arith, lx, lz, other, high)

one_below : (n buys x z p : ℕ) → p < n → trade_level buys x p ≡ 0 → has z p ≡ not (has x p)
    → 1 ≤ level n buys z p - level n buys x p
one_below n buys x z p below low differs =
    let lx = level-trade n buys x p below in
    let lz = level-trade n buys z p below in
    let other = levels_differ buys x z p differs in
    omega (arith, lx, lz, other, low)

-- bundles are far apart where one has three trades of the up side more
pub far_by_up : (n buys x z p q r : ℕ) → x < 2 ^ n → z < 2 ^ n → p < n → q < p → r < q
    → trade_level buys x p ≡ 1 → trade_level buys x q ≡ 1 → trade_level buys x r ≡ 1
    → has z p ≡ not (has x p) → has z q ≡ not (has x q) → has z r ≡ not (has x r) → AreClose buys x z → ⊥
unfolding gap
far_by_up n buys x z p q r x_own z_own p_below q_below r_below high_p high_q high_r p_differs q_differs r_differs
    close =
    let q_n : q < n = omega (arith, q_below, p_below) in
    let r_n : r < n = omega (arith, r_below, q_n) in
    let three = three_terms (λ k. level n buys x k - level n buys z k) p q r (suc n) (omega (arith, p_below)) q_below
    r_below
    (one_above n buys x z p p_below high_p p_differs) (one_above n buys x z q q_n high_q q_differs)
    (one_above n buys x z r r_n high_r r_differs) in
    let both = distance-gaps n buys x z x_own z_own in
    let same = gap-symmetric (bare n buys) x z in
    absurd (omega (arith, three, both, same, close))

pub far_by_down : (n buys x z p q r : ℕ) → x < 2 ^ n → z < 2 ^ n → p < n → q < p → r < q
    → trade_level buys x p ≡ 0 → trade_level buys x q ≡ 0 → trade_level buys x r ≡ 0
    → has z p ≡ not (has x p) → has z q ≡ not (has x q) → has z r ≡ not (has x r) → AreClose buys x z → ⊥
unfolding gap
far_by_down n buys x z p q r x_own z_own p_below q_below r_below low_p low_q low_r p_differs q_differs r_differs close =
    let q_n : q < n = omega (arith, q_below, p_below) in
    let r_n : r < n = omega (arith, r_below, q_n) in
    let three = three_terms (λ k. level n buys z k - level n buys x k) p q r (suc n) (omega (arith, p_below)) q_below
    r_below
    (one_below n buys x z p p_below low_p p_differs) (one_below n buys x z q q_n low_q q_differs)
    (one_below n buys x z r r_n low_r r_differs) in
    let both = distance-gaps n buys x z x_own z_own in
    let same = gap-symmetric (bare n buys) x z in
    absurd (omega (arith, three, both, same, close))

-- at a position that wasn't walked yet nothing differs
pub unwalked : (n buys x y k : ℕ) (sides : Sides) → k < n → IsReached n buys x y (suc k) sides → has y k ≡ has x k
unwalked n buys x y k sides below reached =
    reached.same k below (other sides.up.first reached.up.first.from) (other sides.up.second reached.up.second.from)
    (other sides.down.first reached.down.first.from) (other sides.down.second reached.down.second.from)
  where
    other : (p : ℕ) → (p < n → suc k ≤ p) → k ≢ p
    other p from e = let h = from (omega (arith, e, below)) in omega (arith, h, e)

-- a toggle below changes nothing at the places of before
apart_toggled : (n buys x y k level p : ℕ) → IsApartAt n buys x y (suc k) level p
    → IsApartAt n buys x (toggle y k) k level p
apart_toggled n buys x y k level p is = record {
  place = is.place;
  from = λ h. let from = is.from h in omega (arith, from);
  level_is = is.level_is;
  differs = λ h. let from = is.from h in has-toggle_other y k p (λ e. omega (arith, e, from)) ∙ is.differs h;
}

two_toggled : (n buys x y k level : ℕ) (two : Two) → AreApartAt n buys x y (suc k) level two
    → AreApartAt n buys x (toggle y k) k level two
two_toggled n buys x y k level two are = record {
  first = apart_toggled n buys x y k level two.first are.first;
  second = apart_toggled n buys x y k level two.second are.second;
  order = are.order;
}

-- no trade
apart_null : (n buys x y k level : ℕ) → IsApartAt n buys x y k level n
apart_null n buys x y k level = record {
  place = omega arith;
  from = λ h. absurd (omega (arith, h));
  level_is = λ h. absurd (omega (arith, h));
  differs = λ h. absurd (omega (arith, h));
}

-- the trade that is toggled
apart_here : (n buys x y k level : ℕ) → k < n → has y k ≡ has x k → trade_level buys x k ≡ level
    → IsApartAt n buys x (toggle y k) k level k
apart_here n buys x y k level below same is = record {
  place = omega (arith, below);
  from = λ h. omega arith;
  level_is = λ h. is;
  differs = λ h. has-toggle_same y k ∙ ap not same;
}

-- one toggle more, at a position of this level
pub one_more_apart : (n buys x y k level : ℕ) (two : Two) → k < n → has y k ≡ has x k → trade_level buys x k ≡ level
    → AreApartAt n buys x y (suc k) level two → two.first ≡ n
    → AreApartAt n buys x (toggle y k) k level (record { first = k; second = n })
one_more_apart n buys x y k level two below same is are null = record {
  first = apart_here n buys x y k level below same is;
  second = apart_null n buys x (toggle y k) k level;
  order = λ h. absurd (omega (arith, h));
}

pub two_apart : (n buys x y k level : ℕ) (two : Two) → k < n → has y k ≡ has x k → trade_level buys x k ≡ level
    → AreApartAt n buys x y (suc k) level two → two.first ≢ n
    → AreApartAt n buys x (toggle y k) k level (record { first = two.first; second = k })
two_apart n buys x y k level two below same is are trade =
    let place = are.first.place in
    let from = are.first.from (omega (arith, place, trade)) in
    record {
      first = apart_toggled n buys x y k level two.first are.first;
      second = apart_here n buys x y k level below same is;
      order = λ h. (omega (arith, from), omega (arith, place, trade));
    }

-- one more position takes the first free place, if one is free
with_first : (two : Two) (k n : ℕ) → two.first ≡ n → with_one_more two k n ≡ Some (record { first = k; second = n })
with_first two k n e = ap (λ b. if b then Some (record { first = k; second = n }) else if two.second == n
    then Some (record { first = two.first; second = k }) else None) (eq-eqb two.first n e)

with_second : (two : Two) (k n : ℕ) → two.first ≢ n → two.second ≡ n
    → with_one_more two k n ≡ Some (record { first = two.first; second = k })
with_second two k n d e =
    ap (λ b. if b then Some (record { first = k; second = n }) else if two.second == n
    then Some (record { first = two.first; second = k }) else None) (ne_eqb two.first n d)
    ∙ ap (λ b. if b then Some (record { first = two.first; second = k }) else None) (eq-eqb two.second n e)

with_none : (two : Two) (k n : ℕ) → two.first ≢ n → two.second ≢ n → with_one_more two k n ≡ None
with_none two k n d e =
    ap (λ b. if b then Some (record { first = k; second = n }) else if two.second == n
    then Some (record { first = two.first; second = k }) else None) (ne_eqb two.first n d)
    ∙ ap (λ b. if b then Some (record { first = two.first; second = k }) else None) (ne_eqb two.second n e)

-- what the toggled bundle leaves as it was
same_toggled : (x y k j : ℕ) → j ≢ k → has y j ≡ has x j → has (toggle y k) j ≡ has x j
same_toggled x y k j other same = has-toggle_other y k j other ∙ same

-- what is known after a toggle at a position of the up side
known_up : (n buys x y k : ℕ) (sides : Sides) → k < n → x < 2 ^ n → trade_level buys x k ≡ 1
    → IsReached n buys x y (suc k) sides
    → (o : Option Two) → o ≡ with_one_more sides.up k n → (more : Option Sides)
    → ((two : Two) → o ≡ Some two → more ≡ Some (record { up = two; down = sides.down })) → (o ≡ None → more ≡ None)
    → IsKnown n buys x (toggle y k) k more
known_up n buys x y k sides below x_own high reached o is more some none = elim (cases_eq sides.up.first n) [
  | inl null ↦
      let made : o ≡ Some (record { first = k; second = n }) = is ∙ with_first sides.up k n null in
      subst (IsKnown n buys x (toggle y k) k) (sym (some _ made)) (record {
        own = toggle_within y k n reached.own below;
        up = one_more_apart n buys x y k 1 sides.up below same high reached.up null;
        down = two_toggled n buys x y k 0 sides.down reached.down;
        same = λ j h p q r s. same_toggled x y k j p (reached.same j h (λ e. omega (arith, e, h, null))
            (second_null null j h) r s);
      })
  | inr trade ↦ elim (cases_eq sides.up.second n) [
    | inl null ↦
        let made : o ≡ Some (record { first = sides.up.first; second = k }) = is ∙ with_second sides.up k n trade null
        in
        subst (IsKnown n buys x (toggle y k) k) (sym (some _ made)) (record {
          own = toggle_within y k n reached.own below;
          up = two_apart n buys x y k 1 sides.up below same high reached.up trade;
          down = two_toggled n buys x y k 0 sides.down reached.down;
          same = λ j h p q r s. same_toggled x y k j q (reached.same j h p (λ e. omega (arith, e, h, null)) r s);
        })
    | inr full ↦
        let made : o ≡ None = is ∙ with_none sides.up k n trade full in
        let second_place = reached.up.second.place in
        let second_below : sides.up.second < n = omega (arith, second_place, full) in
        let order = reached.up.order second_below in
        let from_first = reached.up.first.from order.1 in
        let from_second = reached.up.second.from second_below in
        subst (IsKnown n buys x (toggle y k) k) (sym (none made)) (λ z z_own agrees.
        far_by_up n buys x z sides.up.first sides.up.second k x_own z_own order.1 order.0 (omega (arith, from_second))
        (reached.up.first.level_is order.1) (reached.up.second.level_is second_below) high
        (agrees sides.up.first (omega (arith, from_first)) ∙
        (apart_toggled n buys x y k 1 sides.up.first reached.up.first).differs order.1)
        (agrees sides.up.second (omega (arith, from_second))
        ∙ (apart_toggled n buys x y k 1 sides.up.second reached.up.second).differs second_below)
        (agrees k (omega arith) ∙ has-toggle_same y k ∙ ap not same))
  ]
]
  where
    same : has y k ≡ has x k
    same = unwalked n buys x y k sides below reached

    second_null : sides.up.first ≡ n → (j : ℕ) → j < n → j ≢ sides.up.second
    second_null null j h e = let order = reached.up.order (omega (arith, h, e)) in let q = order.1 in
        absurd (omega (arith, q, null))

-- and at one of the down side
known_down : (n buys x y k : ℕ) (sides : Sides) → k < n → x < 2 ^ n → trade_level buys x k ≡ 0
    → IsReached n buys x y (suc k) sides
    → (o : Option Two) → o ≡ with_one_more sides.down k n → (more : Option Sides)
    → ((two : Two) → o ≡ Some two → more ≡ Some (record { up = sides.up; down = two })) → (o ≡ None → more ≡ None)
    → IsKnown n buys x (toggle y k) k more
known_down n buys x y k sides below x_own low reached o is more some none = elim (cases_eq sides.down.first n) [
  | inl null ↦
      let made : o ≡ Some (record { first = k; second = n }) = is ∙ with_first sides.down k n null in
      subst (IsKnown n buys x (toggle y k) k) (sym (some _ made)) (record {
        own = toggle_within y k n reached.own below;
        up = two_toggled n buys x y k 1 sides.up reached.up;
        down = one_more_apart n buys x y k 0 sides.down below same low reached.down null;
        same = λ j h p q r s. same_toggled x y k j r (reached.same j h p q (λ e. omega (arith, e, h, null))
            (second_null null j h));
      })
  | inr trade ↦ elim (cases_eq sides.down.second n) [
    | inl null ↦
        let made : o ≡ Some (record { first = sides.down.first; second = k }) =
        is ∙ with_second sides.down k n trade null in
        subst (IsKnown n buys x (toggle y k) k) (sym (some _ made)) (record {
          own = toggle_within y k n reached.own below;
          up = two_toggled n buys x y k 1 sides.up reached.up;
          down = two_apart n buys x y k 0 sides.down below same low reached.down trade;
          same = λ j h p q r s. same_toggled x y k j s (reached.same j h p q r (λ e. omega (arith, e, h, null)));
        })
    | inr full ↦
        let made : o ≡ None = is ∙ with_none sides.down k n trade full in
        let second_place = reached.down.second.place in
        let second_below : sides.down.second < n = omega (arith, second_place, full) in
        let order = reached.down.order second_below in
        let from_first = reached.down.first.from order.1 in
        let from_second = reached.down.second.from second_below in
        subst (IsKnown n buys x (toggle y k) k) (sym (none made)) (λ z z_own agrees.
        far_by_down n buys x z sides.down.first sides.down.second k x_own z_own order.1 order.0
        (omega (arith, from_second))
        (reached.down.first.level_is order.1) (reached.down.second.level_is second_below) low
        (agrees sides.down.first (omega (arith, from_first))
        ∙ (apart_toggled n buys x y k 0 sides.down.first reached.down.first).differs order.1)
        (agrees sides.down.second (omega (arith, from_second))
        ∙ (apart_toggled n buys x y k 0 sides.down.second reached.down.second).differs second_below)
        (agrees k (omega arith) ∙ has-toggle_same y k ∙ ap not same))
  ]
]
  where
    same : has y k ≡ has x k
    same = unwalked n buys x y k sides below reached

    second_null : sides.down.first ≡ n → (j : ℕ) → j < n → j ≢ sides.down.second
    second_null null j h e = let order = reached.down.order (omega (arith, h, e)) in let q = order.1 in
        absurd (omega (arith, q, null))

-- both as the walk meets them
pub known_up_some : (n buys x y k : ℕ) (sides : Sides) (two : Two) → k < n → x < 2 ^ n → trade_level buys x k ≡ 1
    → IsReached n buys x y (suc k) sides
    → with_one_more sides.up k n ≡ Some two → IsReached n buys x (toggle y k) k (record { up = two; down = sides.down })
known_up_some n buys x y k sides two below x_own high reached is =
    known_up n buys x y k sides below x_own high reached (Some two) (sym is)
    (Some (record { up = two; down = sides.down }))
    (λ t e. ap (λ (u : Two). Some (record { up = u; down = sides.down })) (same_Some _ _ e))
    (λ e. absurd (none-some two (sym e)))

pub known_up_none : (n buys x y k : ℕ) (sides : Sides) → k < n → x < 2 ^ n → trade_level buys x k ≡ 1
    → IsReached n buys x y (suc k) sides
    → with_one_more sides.up k n ≡ None → NoneIsClose n buys x (toggle y k) k
known_up_none n buys x y k sides below x_own high reached is =
    known_up n buys x y k sides below x_own high reached None (sym is) None (λ t e. absurd (none-some t e)) (λ e. refl)

pub known_down_some : (n buys x y k : ℕ) (sides : Sides) (two : Two) → k < n → x < 2 ^ n → trade_level buys x k ≡ 0
    → IsReached n buys x y (suc k) sides
    → with_one_more sides.down k n ≡ Some two → IsReached n buys x (toggle y k) k (record { up = sides.up; down = two })
known_down_some n buys x y k sides two below x_own low reached is =
    known_down n buys x y k sides below x_own low reached (Some two) (sym is)
    (Some (record { up = sides.up; down = two }))
    (λ t e. ap (λ (u : Two). Some (record { up = sides.up; down = u })) (same_Some _ _ e))
    (λ e. absurd (none-some two (sym e)))

pub known_down_none : (n buys x y k : ℕ) (sides : Sides) → k < n → x < 2 ^ n → trade_level buys x k ≡ 0
    → IsReached n buys x y (suc k) sides
    → with_one_more sides.down k n ≡ None → NoneIsClose n buys x (toggle y k) k
known_down_none n buys x y k sides below x_own low reached is =
    known_down n buys x y k sides below x_own low reached None (sym is) None (λ t e. absurd (none-some t e)) (λ e. refl)

-- trades of different levels are different
levels_apart : (n buys x y k p q : ℕ) → IsApartAt n buys x y k 1 p → IsApartAt n buys x y k 0 q → p < n → p ≢ q
levels_apart n buys x y k p q high low below e =
    let one = high.level_is below in
    let nothing : trade_level buys x p ≡ 0 =
    subst (λ (i : ℕ). trade_level buys x i ≡ 0) (sym e) (low.level_is (omega (arith, e, below))) in
    omega (arith, one, nothing)

-- the two of one level are different
two_differ : (n buys x y k level : ℕ) (two : Two) → AreApartAt n buys x y k level two → two.first < n
    → two.first ≢ two.second
two_differ n buys x y k level two are below e = let order = are.order (omega (arith, e, below)) in let q = order.0 in
    omega (arith, q, e)

-- toggled at a trade
has-toggle_at_same : (n z i : ℕ) → i < n → has (toggle_at n z i) i ≡ not (has z i)
has-toggle_at_same n z i below = ap (λ (w : ℕ). has w i) (toggle_at-trade n z i below) ∙ has-toggle_same z i

-- a bundle that was reached is x moved at the first places and at the second ones
pub reached_is : (n buys x y : ℕ) (sides : Sides) → x < 2 ^ n → IsReached n buys x y 0 sides
    → y ≡ move n (move n x sides.up.first sides.down.first) sides.up.second sides.down.second
unfolding move
reached_is n buys x y sides x_own reached =
    same_below y _ n reached.own (move-within n (move n x sides.up.first sides.down.first) sides.up.second
    sides.down.second
    (move-within n x sides.up.first sides.down.first x_own)) (λ k h. elim (cases_eq k sides.up.first) [
      | inl e ↦ subst (λ (i : ℕ). has y i ≡ has moved i) (sym e) (at_a (omega (arith, e, h)))
      | inr not_a ↦ elim (cases_eq k sides.up.second) [
        | inl e ↦ subst (λ (i : ℕ). has y i ≡ has moved i) (sym e) (at_b (omega (arith, e, h)))
        | inr not_b ↦ elim (cases_eq k sides.down.first) [
          | inl e ↦ subst (λ (i : ℕ). has y i ≡ has moved i) (sym e) (at_c (omega (arith, e, h)))
          | inr not_c ↦ elim (cases_eq k sides.down.second) [
            | inl e ↦ subst (λ (i : ℕ). has y i ≡ has moved i) (sym e) (at_d (omega (arith, e, h)))
            | inr not_d ↦ reached.same k h not_a not_b not_c not_d
                ∙ sym (has-toggle_at n _ sides.down.second k not_d ∙ has-toggle_at n _ sides.up.second k not_b
                ∙ has-toggle_at n _ sides.down.first k not_c ∙ has-toggle_at n x sides.up.first k not_a)
          ]
        ]
      ]
    ])
  where
    moved : ℕ
    moved = toggle_at n (toggle_at n (toggle_at n (toggle_at n x sides.up.first) sides.down.first) sides.up.second)
        sides.down.second

    at_a : sides.up.first < n → has y sides.up.first ≡ has moved sides.up.first
    at_a h =
        reached.up.first.differs h ∙ sym (
        has-toggle_at n _ sides.down.second sides.up.first (levels_apart n buys x y 0 _ _ reached.up.first
        reached.down.second h)
        ∙ has-toggle_at n _ sides.up.second sides.up.first (two_differ n buys x y 0 1 sides.up reached.up h)
        ∙ has-toggle_at n _ sides.down.first sides.up.first
        (levels_apart n buys x y 0 _ _ reached.up.first reached.down.first h)
        ∙ has-toggle_at_same n x sides.up.first h)

    at_b : sides.up.second < n → has y sides.up.second ≡ has moved sides.up.second
    at_b h =
        reached.up.second.differs h ∙ sym (
        has-toggle_at n _ sides.down.second sides.up.second
        (levels_apart n buys x y 0 _ _ reached.up.second reached.down.second h)
        ∙ has-toggle_at_same n _ sides.up.second h
        ∙ ap not (has-toggle_at n _ sides.down.first sides.up.second
        (levels_apart n buys x y 0 _ _ reached.up.second reached.down.first h)
        ∙ has-toggle_at n x sides.up.first sides.up.second (λ e. two_differ n buys x y 0 1 sides.up reached.up
        (reached.up.order h).1 (sym e))))

    at_c : sides.down.first < n → has y sides.down.first ≡ has moved sides.down.first
    at_c h =
        reached.down.first.differs h ∙ sym (
        has-toggle_at n _ sides.down.second sides.down.first (two_differ n buys x y 0 0 sides.down reached.down h)
        ∙ has-toggle_at n _ sides.up.second sides.down.first
        (λ e. levels_apart n buys x y 0 _ _ reached.up.second reached.down.first (omega (arith, e, h)) (sym e))
        ∙ has-toggle_at_same n _ sides.down.first h
        ∙ ap not (has-toggle_at n x sides.up.first sides.down.first
        (λ e. levels_apart n buys x y 0 _ _ reached.up.first reached.down.first (omega (arith, e, h)) (sym e))))

    at_d : sides.down.second < n → has y sides.down.second ≡ has moved sides.down.second
    at_d h =
        reached.down.second.differs h ∙ sym (
        has-toggle_at_same n _ sides.down.second h
        ∙ ap not (has-toggle_at n _ sides.up.second sides.down.second
        (λ e. levels_apart n buys x y 0 _ _ reached.up.second reached.down.second (omega (arith, e, h)) (sym e))
        ∙ has-toggle_at n _ sides.down.first sides.down.second
        (λ e. two_differ n buys x y 0 0 sides.down reached.down (reached.down.order h).1 (sym e))
        ∙ has-toggle_at n x sides.up.first sides.down.second
        (λ e. levels_apart n buys x y 0 _ _ reached.up.first reached.down.second (omega (arith, e, h)) (sym e))))

-- a place can be lowered, or raised
falls : (n buys x y p : ℕ) → IsApartAt n buys x y 0 1 p → CanFall n (level n buys x) p
falls n buys x y p is h = level-trade n buys x p h ∙ is.level_is h

rises : (n buys x y p : ℕ) → IsApartAt n buys x y 0 0 p → CanRise n (level n buys x) p
rises n buys x y p is h = level-trade n buys x p h ∙ is.level_is h

-- with two trades on one of the sides, the bundles are four places apart
pub reached_four : (firm : Firm) (x y : ℕ) (sides : Sides) → x < 2 ^ firm.count
    → IsReached firm.count firm.buys x y 0 sides
    → (sides.up.second < firm.count) ⊎ (sides.down.second < firm.count)
    → AreFourApart firm x y sides.up.first sides.up.second sides.down.first sides.down.second
reached_four firm x y sides x_own reached one = record {
  a_place = reached.up.first.place;
  b_place = reached.up.second.place;
  c_place = reached.down.first.place;
  d_place = reached.down.second.place;
  a_falls = falls firm.count firm.buys x y sides.up.first reached.up.first;
  b_falls = falls firm.count firm.buys x y sides.up.second reached.up.second;
  c_rises = rises firm.count firm.buys x y sides.down.first reached.down.first;
  d_rises = rises firm.count firm.buys x y sides.down.second reached.down.second;
  a_c = apart sides.up.first sides.down.first reached.up.first reached.down.first (λ h. (reached.up.order h).1)
      (λ h. (reached.down.order h).1);
  a_d = apart sides.up.first sides.down.second reached.up.first reached.down.second (λ h. (reached.up.order h).1)
      (λ h. h);
  b_c = apart sides.up.second sides.down.first reached.up.second reached.down.first (λ h. h)
      (λ h. (reached.down.order h).1);
  b_d = apart sides.up.second sides.down.second reached.up.second reached.down.second (λ h. h) (λ h. h);
  a_b = λ h. two_differ firm.count firm.buys x y 0 1 sides.up reached.up (reached.up.order h).1;
  c_d = λ h. two_differ firm.count firm.buys x y 0 0 sides.down reached.down (reached.down.order h).1;
  c_d' = two_differ firm.count firm.buys x y 0 0 sides.down reached.down;
  is = reached_is firm.count firm.buys x y sides x_own reached;
}
  where
    apart : (p q : ℕ) → IsApartAt firm.count firm.buys x y 0 1 p → IsApartAt firm.count firm.buys x y 0 0 q
        → (sides.up.second < firm.count → p < firm.count) → (sides.down.second < firm.count → q < firm.count) → p ≢ q
    apart p q high low by_up by_down e = elim one [
      | inl h ↦ levels_apart firm.count firm.buys x y 0 p q high low (by_up h) e
      | inr h ↦ let below = by_down h in
          levels_apart firm.count firm.buys x y 0 p q high low (omega (arith, below, e)) e
    ]

-- with at most one trade on each side, they aren't close
pub reached_near : (n buys x y : ℕ) (sides : Sides) → x < 2 ^ n → IsReached n buys x y 0 sides → sides.up.second ≡ n
    → sides.down.second ≡ n
    → AreClose buys x y → ⊥
unfolding gap
reached_near n buys x y sides x_own reached b_null d_null close =
    let both = distance-gaps n buys x y x_own reached.own in
    let same = gap-symmetric (bare n buys) x y in
    let few = few_apart in
    absurd (omega (arith, both, same, few, close))
  where
    y_is : y ≡ move n x sides.up.first sides.down.first
    y_is =
        reached_is n buys x y sides x_own reached
        ∙ ap (λ (i : ℕ). move n (move n x sides.up.first sides.down.first) i sides.down.second) b_null
        ∙ ap (λ (i : ℕ). move n (move n x sides.up.first sides.down.first) n i) d_null
        ∙ (places n buys).same (move n x sides.up.first sides.down.first) n

    few_apart : gap n (level n buys x) (level n buys y) ≤ 1
    few_apart = elim (cases_eq sides.up.first sides.down.first) [
      | inl e ↦
          let itself : y ≡ x = y_is ∙ ap (λ (i : ℕ). move n x i sides.down.first) e
          ∙ (places n buys).same x sides.down.first in
          let none : gap n (level n buys x) (level n buys y) ≡ 0 =
          ap (λ (z : ℕ). gap n (level n buys x) (level n buys z)) itself ∙ gap-itself (bare n buys) x in
          omega (arith, none)
      | inr different ↦
          let single = sum_to-single sides.up.first (suc n) (let place = reached.up.first.place in omega (arith, place))
          in
          let small = sum_to-le (λ k. level n buys x k - level n buys y k) (one_at sides.up.first) (suc n) (λ k h.
          let levels : level n buys y k + one_at sides.up.first k ≡ level n buys x k + one_at sides.down.first k =
          subst (λ (z : ℕ). level n buys z k + one_at sides.up.first k ≡ level n buys x k + one_at sides.down.first k)
          ((places n buys).order x sides.down.first sides.up.first ∙ sym y_is)
          ((places n buys).levels x sides.down.first sides.up.first k reached.down.first.place reached.up.first.place
          (λ e. different (sym e))
          (rises n buys x y sides.down.first reached.down.first) (falls n buys x y sides.up.first reached.up.first)
          (omega (arith, h))) in
          omega (arith, levels)) in
          omega (arith, single, small)
    ]

-- a toggled place is an own one
pub toggle_at-own : (n x k : ℕ) → x < 2 ^ n → toggle_at n x k < 2 ^ n
unfolding move
toggle_at-own n x k own =
    subst (λ (z : ℕ). z < 2 ^ n) (toggle_at-null n (toggle_at n x k) n (omega arith)) (move-within n x k n own)

-- the level of a purchase, and of a sale
pub level_bought : (buys x k : ℕ) (h : Bool) → has buys k ≡ true → has x k ≡ h
    → trade_level buys x k ≡ (if h then 1 else 0)
unfolding trade_level
level_bought buys x k h bought is = rw (bought, is) refl

pub level_sold : (buys x k : ℕ) (h : Bool) → has buys k ≡ false → has x k ≡ h
    → trade_level buys x k ≡ (if not h then 1 else 0)
unfolding trade_level
level_sold buys x k h sold is = rw (sold, is) (by h)
  where
    by : (h : Bool) → ◌≡◌ {A = ℕ} (if h then 0 else 1) (if not h then 1 else 0)
    by true = refl
    by false = refl

-- a level by its test
pub level_if : (level : ℕ) (b c : Bool) → level ≡ (if b then 1 else 0) → b ≡ c → level ≡ (if c then 1 else 0)
level_if level b c is e = is ∙ ap (λ (d : Bool). if d then 1 else 0) e
