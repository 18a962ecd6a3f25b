-- A firm at a multiple of the outcome's scale, and its reduced worth counted that many times.
use Rattle.std.proofs.Common.{◌≡◌, ℕ, Bool, true, false, if◌then◌else◌, List, slice_get, Option, Some, option_map, refl, sym, ap, ◌∙◌, arith, ℤ, pos, neg_ℤ, ◌+ℤ◌, ◌*ℤ◌, ◌≤ℤ◌}
use Rattle.std.proofs.lemmas.Int.{ints}
use Rattle.tn_base.specs.Sets.{has, minus, sum_over}
use Rattle.tn_base.specs.Firm.{Firm, HasOwnBundles, plus_sum, payments}
use Rattle.tn_base.proofs.SumLemmas.{times-plus, sum_over-times}
use Rattle.tn_firm_laws.proofs.KeepLemmas.{option_map-some, times-le}
use Rattle.tn_model.specs.declared.ends.Ends.{Ends}
use Rattle.tn_model.specs.declared.contract.Contract.{Contract}
use Rattle.tn_model.specs.Network.{own, IsNetwork}
use Rattle.tn_market.specs.Equilibrium.{prices_at}
use Rattle.tn_market.specs.Signed.{is_signed, signed_price, signed_bundle}
use Rattle.tn_market.specs.Reduced.{adding, reduced}
use Rattle.tn_network_laws.proofs.StabilityLemmas.{times-times, times-neg}
use Rattle.tn_outcome_laws.proofs.AddingLemmas.{adding_one, adding_most}
use Rattle.tn_outcome_laws.proofs.SignedLemmas.{no_price, has-signed_bundle}
use Rattle.tn_outcome_laws.proofs.SplitLemmas.{AreSplit, sum_over-split, own_priced}

-- each bundle of the firm has at most the value of its part beside the given positions, and each such value is one of
-- such a bundle
pub record IsCover (firm : Firm) (cover : ℕ → Option ℤ) (given : ℕ) : Type 0 where
  pub covers : (y : ℕ) (u : ℤ) → firm.worth y ≡ Some u → (v : ℤ) × (cover (minus y given) ≡ Some v) × (u ≤ℤ v)
  pub reached : (x : ℕ) (v : ℤ) → cover x ≡ Some v → (y : ℕ) × (minus y given ≡ x) × (firm.worth y ≡ Some v)

pub cover_of : (firm : Firm) (over scale : ℤ) (all inside outside : ℕ → ℤ) (given : ℕ) → HasOwnBundles firm
    → pos 0 ≤ℤ scale
    → AreSplit firm.count given all (λ k. scale *ℤ inside k) outside
    → IsCover (plus_sum (over *ℤ scale) all firm) (plus_sum scale outside
    (adding given (plus_sum over inside firm))).worth given
cover_of firm over scale all inside outside given own from_zero split = record {
  covers = λ y u is.
      let worth = option_map-some (λ w. (over *ℤ scale) *ℤ w +ℤ sum_over all firm.count y) (firm.worth y) u is in
      let there = adding_most given (plus_sum over inside firm) (own_priced over inside firm own) (minus y given) y
      (over *ℤ worth.0 +ℤ sum_over inside firm.count y) refl
      (ap (option_map (λ w. over *ℤ w +ℤ sum_over inside firm.count y)) worth.1) in (
        scale *ℤ there.0 +ℤ sum_over outside firm.count (minus y given),
        ap (option_map (λ w. scale *ℤ w +ℤ sum_over outside firm.count (minus y given))) there.1,
        at_most _ _ _ _ u _ _ worth.2 (sums y) (times-times over scale worth.0)
            (times-plus scale (over *ℤ worth.0) (sum_over inside firm.count y))
            (times-le scale (over *ℤ worth.0 +ℤ sum_over inside firm.count y) there.0 from_zero there.2),
      );
  reached = λ x v is.
      let worth = option_map-some (λ w. scale *ℤ w +ℤ sum_over outside firm.count x)
      ((adding given (plus_sum over inside firm)).worth x) v is in
      let there = adding_one given (plus_sum over inside firm) x worth.0 worth.1 in
      let own_worth =
      option_map-some (λ w. over *ℤ w +ℤ sum_over inside firm.count there.0) (firm.worth there.0) worth.0 there.2 in (
        there.0,
        there.1,
        ap (option_map (λ w. (over *ℤ scale) *ℤ w +ℤ sum_over all firm.count there.0)) own_worth.1
            ∙ ap (λ (z : ℤ). Some z) (equal _ _ _ _ _ _ v (sums there.0
            ∙ ap (λ (z : ℕ). scale *ℤ sum_over inside firm.count there.0 +ℤ sum_over outside firm.count z) there.1)
            (times-times over scale own_worth.0)
            (sym (times-plus scale (over *ℤ own_worth.0) (sum_over inside firm.count there.0))
            ∙ ap (λ (z : ℤ). scale *ℤ z) own_worth.2) worth.2),
      );
}
  where
    sums : (y : ℕ) → sum_over all firm.count y ≡ scale *ℤ sum_over inside firm.count y
        +ℤ sum_over outside firm.count (minus y given)
    sums y = sum_over-split firm.count given y all (λ k. scale *ℤ inside k) outside split
        ∙ ap (λ (z : ℤ). z +ℤ sum_over outside firm.count (minus y given)) (sum_over-times scale inside firm.count y)

    at_most : (a s i o u b r : ℤ) → a +ℤ s ≡ u → s ≡ i +ℤ o → a ≡ b → {c : ℤ} → c ≡ b +ℤ i → c ≤ℤ r → u ≤ℤ (r +ℤ o)
    at_most a s i o u b r is sum same {c} parts low = omega (arith, ints, is, sum, same, parts, low)

    equal : (a s i o b r v : ℤ) → s ≡ i +ℤ o → a ≡ b → b +ℤ i ≡ r → r +ℤ o ≡ v → a +ℤ s ≡ v
    equal a s i o b r v sum same parts is = omega (arith, ints, sum, same, parts, is)

-- the prices of all trades: those of the contracts counted `scale` times, and given ones for unsigned trades
abbrev pub scaled_price : List Contract → ℤ → (ℕ → ℤ) → ℕ → ℤ
scaled_price contracts scale prices t = if is_signed contracts t then scale *ℤ signed_price contracts t else prices t

-- a firm at these prices is covered by its reduced worth at the given prices
pub firm_cover : (firms : List Firm) (trades : List Ends) → IsNetwork firms trades
    → (over : ℤ) (contracts : List Contract) (scale : ℤ) → pos 0 ≤ℤ scale → (prices : ℕ → ℤ)
    → (f : ℕ) (firm : Firm) → slice_get firms f ≡ Some firm → HasOwnBundles firm
    → IsCover (plus_sum (over *ℤ scale) (payments firm.buys (prices_at trades (scaled_price contracts scale prices) f))
    firm)
    (plus_sum scale (payments firm.buys (prices_at trades prices f)) (reduced trades over contracts f firm)).worth
    (signed_bundle trades contracts f firm)
firm_cover firms trades network over contracts scale from_zero prices f firm is has_own =
    cover_of firm over scale (payments firm.buys (prices_at trades (scaled_price contracts scale prices) f))
    (payments firm.buys (prices_at trades (signed_price contracts) f))
    (payments firm.buys (prices_at trades prices f)) (signed_bundle trades contracts f firm) has_own from_zero (record {
      on = λ k below there.
          let signed = sym (has-signed_bundle firms trades network contracts f k firm is below) ∙ there in
          ap (pays k) (ap (λ (b : Bool). if b then scale *ℤ signed_price contracts (own_trade k)
          else prices (own_trade k)) signed) ∙ by_side (has firm.buys k) (signed_price contracts (own_trade k));
      off = λ k below away.
          let unsigned = sym (has-signed_bundle firms trades network contracts f k firm is below) ∙ away in (
            ap (λ (z : ℤ). scale *ℤ pays k z) (no_price contracts (own_trade k) unsigned) ∙ nothing (has firm.buys k),
            ap (pays k) (ap (λ (b : Bool). if b then scale *ℤ signed_price contracts (own_trade k)
                else prices (own_trade k)) unsigned),
          );
    })
  where
    own_trade : ℕ → ℕ
    own_trade k = own trades f k

    pays : ℕ → ℤ → ℤ
    pays k z = if has firm.buys k then neg_ℤ z else z

    by_side : (b : Bool) (z : ℤ) → (if b then neg_ℤ (scale *ℤ z) else scale *ℤ z) ≡ scale *ℤ (if b then neg_ℤ z else z)
    by_side true z = sym (times-neg scale z)
    by_side false z = refl

    nothing : (b : Bool) → scale *ℤ (if b then neg_ℤ (pos 0) else pos 0) ≡ pos 0
    nothing true = omega (arith, ints)
    nothing false = omega (arith, ints)
