-- A firm at prices of all trades is mirrored by its reduced worth at prices of the unsigned ones.
use Rattle.std.proofs.Common.{◌≡◌, ℕ, zero, suc, ◌<◌, Bool, true, false, not, ◌&&◌, ◌||◌, if◌then◌else◌, Some, option_map, refl, sym, ap, ap₂, ◌∙◌, arith, ℤ, pos, ◌+ℤ◌, ◌*ℤ◌, ◌≤ℤ◌}
use Rattle.std.proofs.lemmas.Int.{ints}
use Rattle.std.proofs.lemmas.Bool.{or_left}
use Rattle.tn_base.specs.Sets.{has, union, minus, sum_over}
use Rattle.tn_base.specs.Firm.{Firm, HasOwnBundles, plus_sum, among}
use Rattle.tn_base.proofs.SetLemmas.{has-minus, has-union, minus-zero_from, has_from_minus-zero}
use Rattle.tn_base.proofs.SumLemmas.{sum_over-empty}
use Rattle.tn_firm_laws.proofs.KeepLemmas.{option_map-some}
use Rattle.tn_market.specs.Best.{IsSubset, IsBestBetween}
use Rattle.tn_market.specs.Reduced.{adding}
use Rattle.tn_network_laws.proofs.AdmittedLemmas.{among_inside, among_parts}
use Rattle.tn_outcome_laws.proofs.AddingLemmas.{adding_one, adding_most}
use Rattle.tn_outcome_laws.proofs.RationalLemmas.{between_signed}
use Rattle.tn_outcome_laws.proofs.MirrorLemmas.{IsMirror, minus-self}

-- all amounts are those of the given positions, and beside these the ones of the others
pub record AreSplit (n given : ℕ) (all inside outside : ℕ → ℤ) : Type 0 where
  pub on : (k : ℕ) → k < n → has given k ≡ true → all k ≡ inside k
  pub off : (k : ℕ) → k < n → has given k ≡ false → (inside k ≡ pos 0) × (all k ≡ outside k)

-- so a sum is one over the bundle and one over the other positions
pub sum_over-split : (n given y : ℕ) (all inside outside : ℕ → ℤ) → AreSplit n given all inside outside
    → sum_over all n y ≡ sum_over inside n y +ℤ sum_over outside n (minus y given)
unfolding sum_over
sum_over-split zero given y all inside outside split = refl
sum_over-split (suc n) given y all inside outside split =
    let rest = sum_over-split n given y all inside outside (record {
      on = λ k below. split.on k (omega (arith, below));
      off = λ k below. split.off k (omega (arith, below));
    }) in
    let last = by_case (has y n) (has given n) (λ e. split.on n (omega arith) e) (λ e. split.off n (omega arith) e) in
    let member : (if has (minus y given) n then outside n else pos 0) ≡ (if has y n && not (has given n) then outside n
    else pos 0) =
    ap (λ (b : Bool). if b then outside n else pos 0) (has-minus y given n) in
    omega (arith, ints, rest, last, member)
  where
    by_case : (h g : Bool) → (g ≡ true → all n ≡ inside n) → (g ≡ false → (inside n ≡ pos 0) × (all n ≡ outside n))
        → (if h then all n else pos 0) ≡ (if h then inside n else pos 0) +ℤ (if h && not g then outside n else pos 0)
    by_case true true on off = let e = on refl in omega (arith, ints, e)
    by_case true false on off = let none = (off refl).0 in let e = (off refl).1 in omega (arith, ints, none, e)
    by_case false g on off = omega (arith, ints)

-- ---- a firm and its reduced worth

pub own_priced : (scale : ℤ) (c : ℕ → ℤ) (firm : Firm) → HasOwnBundles firm → HasOwnBundles (plus_sum scale c firm)
own_priced scale c firm own x a is =
    let worth = option_map-some (λ w. scale *ℤ w +ℤ sum_over c firm.count x) (firm.worth x) a is in
    own x worth.0 worth.1

-- a bundle within a set has no members beside it
within_part : (y given : ℕ) → minus y given ≡ 0 → IsSubset y given
within_part y given inside k there = has_from_minus-zero y given k inside there

pub mirror_of : (firm : Firm) (scale : ℤ) (all inside outside : ℕ → ℤ) (given : ℕ) (value : ℤ) → HasOwnBundles firm
    → AreSplit firm.count given all inside outside
    → IsBestBetween 0 given (plus_sum scale inside firm).worth given value
    → IsMirror (plus_sum scale all firm) (plus_sum (pos 1) outside (adding given (plus_sum scale inside firm))).worth
    given value
mirror_of firm scale all inside outside given value own split best = record {
  covers = λ y u is.
      let worth = option_map-some (λ w. scale *ℤ w +ℤ sum_over all firm.count y) (firm.worth y) u is in
      let there = adding_most given (plus_sum scale inside firm) (own_priced scale inside firm own) (minus y given) y
      (scale *ℤ worth.0 +ℤ sum_over inside firm.count y) refl
      (ap (option_map (λ w. scale *ℤ w +ℤ sum_over inside firm.count y)) worth.1) in (
        pos 1 *ℤ there.0 +ℤ sum_over outside firm.count (minus y given),
        ap (option_map (λ w. pos 1 *ℤ w +ℤ sum_over outside firm.count (minus y given))) there.1,
        at_most (scale *ℤ worth.0) (sum_over all firm.count y) _ _ u there.0 worth.2
            (sum_over-split firm.count given y all inside outside split) there.2,
      );
  reached = λ x v is.
      let reduced =
      option_map-some (λ w. pos 1 *ℤ w +ℤ sum_over outside firm.count x)
      ((adding given (plus_sum scale inside firm)).worth x) v is in
      let there = adding_one given (plus_sum scale inside firm) x reduced.0 reduced.1 in
      let worth = option_map-some (λ w. scale *ℤ w +ℤ sum_over inside firm.count there.0) (firm.worth there.0) reduced.0
      there.2 in
      let sum : sum_over all firm.count there.0 ≡ sum_over inside firm.count there.0 +ℤ sum_over outside firm.count x =
      sum_over-split firm.count given there.0 all inside outside split
      ∙ ap (λ (z : ℕ). sum_over inside firm.count there.0 +ℤ sum_over outside firm.count z) there.1 in (
        there.0,
        there.1,
        ap (option_map (λ w. scale *ℤ w +ℤ sum_over all firm.count there.0)) worth.1
            ∙ ap (λ (z : ℤ). Some z) (equal (scale *ℤ worth.0) _ _ _ reduced.0 v worth.2 sum reduced.2),
      );
  is = same given (minus-self given) value best.is;
  most = λ y u part is. best.most y u (between_signed y given (within_part y given part)) (back y part u is);
}
  where
    at_most : (a sc sd se u r : ℤ) → a +ℤ sc ≡ u → sc ≡ sd +ℤ se → (a +ℤ sd) ≤ℤ r → u ≤ℤ (pos 1 *ℤ r +ℤ se)
    at_most a sc sd se u r is sum low = omega (arith, ints, is, sum, low)

    equal : (a sc sd se r v : ℤ) → a +ℤ sd ≡ r → sc ≡ sd +ℤ se → pos 1 *ℤ r +ℤ se ≡ v → a +ℤ sc ≡ v
    equal a sc sd se r v is sum priced = omega (arith, ints, is, sum, priced)

    no_more : (y : ℕ) → minus y given ≡ 0 → sum_over all firm.count y ≡ sum_over inside firm.count y
    no_more y part =
        let sum = sum_over-split firm.count given y all inside outside split in
        let none : sum_over outside firm.count (minus y given) ≡ pos 0 =
        ap (sum_over outside firm.count) part ∙ sum_over-empty outside firm.count in
        omega (arith, ints, sum, none)

    same : (y : ℕ) → minus y given ≡ 0 → (u : ℤ) → (plus_sum scale inside firm).worth y ≡ Some u
        → (plus_sum scale all firm).worth y ≡ Some u
    same y part u is = ap (λ (z : ℤ). option_map (λ w. scale *ℤ w +ℤ z) (firm.worth y)) (no_more y part) ∙ is

    back : (y : ℕ) → minus y given ≡ 0 → (u : ℤ) → (plus_sum scale all firm).worth y ≡ Some u
        → (plus_sum scale inside firm).worth y ≡ Some u
    back y part u is = ap (λ (z : ℤ). option_map (λ w. scale *ℤ w +ℤ z) (firm.worth y)) (sym (no_more y part)) ∙ is

-- ---- within some trades

-- where the mirror is kept to some positions, it mirrors the firm kept to these and the given ones
pub mirror-among : (firm small : Firm) (given allowed : ℕ) (value : ℤ) → IsMirror firm small.worth given value
    → IsMirror (among (union given allowed) firm) (among allowed small).worth given value
mirror-among firm small given allowed value mirror = record {
  covers = λ y u is.
      let inside = among_parts (union given allowed) firm y u is in
      let there = mirror.covers y u inside.1 in
      (there.0, among_inside allowed small (minus y given) (rest y inside.0) ∙ there.1, there.2);
  reached = λ x v is.
      let inside = among_parts allowed small x v is in
      let there = mirror.reached x v inside.1 in
      (there.0, there.1, among_inside (union given allowed) firm there.0 (whole there.0 x there.1 inside.0) ∙ there.2);
  is = among_inside (union given allowed) firm given (minus-zero_from given (union given allowed)
      (λ k there. has-union given allowed k ∙ or_left (has given k) (has allowed k) there)) ∙ mirror.is;
  most = λ y u part is. mirror.most y u part (among_parts (union given allowed) firm y u is).1;
}
  where
    rest : (y : ℕ) → minus y (union given allowed) ≡ 0 → minus (minus y given) allowed ≡ 0
    rest y inside = minus-zero_from (minus y given) allowed (λ k there.
        by_case (has y k) (has given k) (has allowed k) (sym (has-minus y given k) ∙ there)
        (λ e. sym (has-union given allowed k) ∙ has_from_minus-zero y (union given allowed) k inside e))
      where
        by_case : (h g a : Bool) → (h && not g) ≡ true → (h ≡ true → (g || a) ≡ true) → a ≡ true
        by_case true true a e f = absurd (cc e)
        by_case true false a e f = f refl
        by_case false g a e f = absurd (cc e)

    whole : (y x : ℕ) → minus y given ≡ x → minus x allowed ≡ 0 → minus y (union given allowed) ≡ 0
    whole y x part inside = minus-zero_from y (union given allowed) (λ k there.
        has-union given allowed k ∙ by_case (has given k) (has allowed k)
        (λ e. has_from_minus-zero x allowed k inside (ap (λ (z : ℕ). has z k) (sym part) ∙ has-minus y given k
        ∙ ap₂ (λ (a b : Bool). a && not b) there e)))
      where
        by_case : (g a : Bool) → (g ≡ false → a ≡ true) → (g || a) ≡ true
        by_case true a f = refl
        by_case false a f = f refl
