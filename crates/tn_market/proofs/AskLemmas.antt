-- What an oracle says when it is asked among all bundles, and how large its answers are.
use Rattle.std.proofs.Common.{rules, ◌≡◌, ℕ, ◌^◌, ◌<◌, Bool, true, false, ◌&&◌, ◌||◌, if◌then◌else◌, Some, None, Option, option_map, IsSome, refl, sym, ap, ap₂, ◌∙◌, subst, arith, ℤ, ◌+ℤ◌, neg_ℤ, ◌*ℤ◌}
use Rattle.std.proofs.lemmas.Int.{ints}
use Rattle.std.proofs.lemmas.Bool.{lt-ltb}
use mir.Syntax.{w128}
use mir.Val.{to_z, of_z}
use Rattle.tn_base.specs.Sets.{has, meet, set_of, sum_over}
use Rattle.tn_base.specs.Arcs.{IsAtMost}
use Rattle.tn_base.specs.Firm.{Firm, payments, utility, IsBest, HasOwnBundles}
use Rattle.tn_base.proofs.SetLemmas.{same_set, has-zero, has-meet, has-union, has-set_of, has_below, set_of_within}
use Rattle.tn_firm_laws.proofs.KeepLemmas.{option_map-some}
use Rattle.tn_market.specs.Best.{IsBetween, IsBestBetween}
use Rattle.tn_market.specs.Widths.{most_utility}

-- ---- the empty bundle

no_member : (e k : ℕ) → e ≡ 0 → has e k ≡ false
no_member e k none = ap (λ (x : ℕ). has x k) none ∙ has-zero k

pub none_meet : (e x : ℕ) → e ≡ 0 → meet e x ≡ 0
none_meet e x none =
    same_set _ _ (λ k. has-meet e x k ∙ ap (λ (b : Bool). b && has x k) (no_member e k none) ∙ sym (has-zero k))

-- ---- all bundles

has-all : (n k : ℕ) → k < n → has (set_of (λ k. true) n) k ≡ true
has-all n k below = has-set_of (λ k. true) n k ∙ ap (λ (b : Bool). b && true) (lt-ltb k n below)

pub all_within : (all n : ℕ) → all ≡ set_of (λ k. true) n → all < 2 ^ n
all_within all n all_is = subst (λ (x : ℕ). x < 2 ^ n) (sym all_is) (set_of_within (λ k. true) n)

own_between : (all n y : ℕ) → all ≡ set_of (λ k. true) n → y < 2 ^ n → IsBetween 0 all y
own_between all n y all_is below = (
  (λ k there. let away = has-zero k in absurd (cc (there, away))),
  (λ k there.
      let inside = has_below y n k below there in
      let in_all : has all k ≡ true = ap (λ (x : ℕ). has x k) all_is ∙ has-all n k inside in
      has-union 0 all k ∙ ap₂ (λ (a b : Bool). a || b) (has-zero k) in_all),
)

-- a possible bundle has own positions alone
possible_between : (firm : Firm) (scale : ℤ) (prices : ℕ → ℤ) (all x : ℕ) (value : ℤ) → HasOwnBundles firm
    → all ≡ set_of (λ k. true) firm.count
    → utility scale prices firm x ≡ Some value → IsBetween 0 all x
possible_between firm scale prices all x value own all_is is =
    let worth = option_map-some (λ a. scale *ℤ a +ℤ sum_over (payments firm.buys prices) firm.count x) (firm.worth x)
    value is in
    own_between all firm.count x all_is (own x worth.0 worth.1)

-- a bundle of greatest utility among all of own positions is best
pub greatest_is_best : (firm : Firm) (scale : ℤ) (prices : ℕ → ℤ) (all x : ℕ) (value : ℤ) → HasOwnBundles firm
    → all ≡ set_of (λ k. true) firm.count
    → IsBestBetween 0 all (utility scale prices firm) x value → IsBest (utility scale prices firm) x value
greatest_is_best firm scale prices all x value own all_is best = record {
  is = best.is;
  most = λ y other y_is. best.most y other (possible_between firm scale prices all y other own all_is y_is) y_is;
}

-- and the other way round
pub best_is_greatest : (firm : Firm) (scale : ℤ) (prices : ℕ → ℤ) (all x : ℕ) (value : ℤ) → HasOwnBundles firm
    → all ≡ set_of (λ k. true) firm.count
    → IsBest (utility scale prices firm) x value → IsBestBetween 0 all (utility scale prices firm) x value
best_is_greatest firm scale prices all x value own all_is best = record {
  is = best.is;
  between = possible_between firm scale prices all x value own all_is best.is;
  most = λ y other between y_is. best.most y other y_is;
}

-- ---- sizes

pub payment_small : (buys : ℕ) (prices : ℕ → ℤ) (k limit : ℕ) → IsAtMost (prices k) limit
    → IsAtMost (payments buys prices k) limit
payment_small buys prices k limit small = by_side (has buys k)
  where
    by_side : (b : Bool) → IsAtMost (if b then neg_ℤ (prices k) else prices k) limit
    by_side true = record { low = omega (arith, ints, small.high); high = omega (arith, ints, small.low) }
    by_side false = small

-- such a number is in the range of the code's
pub as_is : (z : ℤ) → IsAtMost z most_utility → to_z w128 (of_z w128 z) ≡ z
as_is z small = let low = small.low in let high = small.high in omega (arith, ints, low, high)

-- ---- impossible bundles

-- where the worth is known, so is the utility, and the other way round
pub possible_worth : (f : ℤ → ℤ) (worth : Option ℤ) (value : ℤ) → option_map f worth ≡ Some value → IsSome worth
possible_worth f (Some a) value is = search rules
possible_worth f None value is = absurd (cc is)

pub impossible_worth : (f : ℤ → ℤ) (worth : Option ℤ) → option_map f worth ≡ None → worth ≡ None
impossible_worth f (Some a) is = absurd (cc is)
impossible_worth f None is = refl
