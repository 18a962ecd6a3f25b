-- Of the two stalls of the tests: they are a network, and whatever they trade is possible.
use Rattle.std.proofs.Common.{◌≡◌, Bool, true, false, if◌then◌else◌, ℤ, pos, negsuc, ◌+ℤ◌, arith, ap, ap₂, ◌∙◌, refl, sym, subst, ◌≢◌, ℕ, zero, suc, ◌<◌, List, [], ◌∷◌, length, slice_get, Some, lit<, lit≤, ◌≤◌, ◌==◌, ◌&&◌, ◌⊎◌, inl, inr}
use Rattle.std.specs.Prelude.{IsSome, is_some}
use Rattle.std.proofs.lemmas.Int.{ints}
use Rattle.std.proofs.lemmas.Bool.{or_cases, and_parts, eqb-true}
use Rattle.std.proofs.lemmas.Option.{same_Some}
use mir.Syntax.{w128}
use mir.Val.{of_z, to_z}
use Rattle.tn_base.specs.Sets.{has}
use Rattle.tn_base.specs.Firm.{Firm}
use Rattle.tn_base.proofs.SetLemmas.{set_of_within}
use Rattle.tn_model.specs.declared.ends.Ends.{Ends}
use Rattle.tn_model.specs.Network.{own, stands_at, IsNetwork, part}
use Rattle.tn_model.specs.Limits.{most_worth_among}
use Rattle.tn_market.specs.Graph.{ArePossible}
use Rattle.tn_market.specs.Limits.{IsWithinLimits}
use Rattle.tn_market.specs.Traded.{Traded}
use Rattle.tn_market.specs.Valued.{IsWorthAtMost}
use Rattle.tn_market.proofs.AscentLemmas.{smaller}
use Rattle.tn_tests.specs.Stall.{amounts_of, stall, trade_between}
use Rattle.tn_tests.specs.StallLemmas.{stall-within, stall-worth}

-- what the code computes
pub counted_sum : (buys sells b s : Bool) (cost gain : ℤ) → b ≡ buys → s ≡ sells
    → cost ≡ (if b then negsuc 2 else pos 0) → gain ≡ (if s then pos 5 else pos 0)
    → to_z w128 (of_z w128 (to_z w128 (of_z w128 cost) +ℤ to_z w128 (of_z w128 gain))) ≡ amounts_of buys sells
counted_sum buys sells b s cost gain b_is s_is cost_is gain_is = by_case b s cost_is gain_is ∙ ap₂ amounts_of b_is s_is
  where
    by_case : (b s : Bool) → cost ≡ (if b then negsuc 2 else pos 0) → gain ≡ (if s then pos 5 else pos 0)
        → to_z w128 (of_z w128 (to_z w128 (of_z w128 cost) +ℤ to_z w128 (of_z w128 gain))) ≡ amounts_of b s
    by_case true true h i = omega (arith, ints, h, i)
    by_case true false h i = omega (arith, ints, h, i)
    by_case false true h i = omega (arith, ints, h, i)
    by_case false false h i = omega (arith, ints, h, i)

abbrev firms : List Firm
firms = stall ∷ stall ∷ []

abbrev trades : List Ends
trades = trade_between 0 1 ∷ trade_between 1 0 ∷ []

sold_there : (t : ℕ) (trade : Ends) → slice_get trades t ≡ Some trade
    → (firm : Firm) × (slice_get firms trade.seller ≡ Some firm) × (trade.at_seller < firm.count)
    × (has firm.buys trade.at_seller ≡ false)
unfolding has
sold_there zero trade is = subst (λ (x : Ends). (firm : Firm) × (slice_get firms x.seller ≡ Some firm)
    × (x.at_seller < firm.count) × (has firm.buys x.at_seller ≡ false))
    (same_Some _ _ is) (stall, refl, lit< tt, refl)
sold_there (suc zero) trade is = subst (λ (x : Ends). (firm : Firm) × (slice_get firms x.seller ≡ Some firm)
    × (x.at_seller < firm.count) × (has firm.buys x.at_seller ≡ false))
    (same_Some _ _ is) (stall, refl, lit< tt, refl)
sold_there (suc (suc t)) trade is = absurd (cc is)

bought_there : (t : ℕ) (trade : Ends) → slice_get trades t ≡ Some trade
    → (firm : Firm) × (slice_get firms trade.buyer ≡ Some firm) × (trade.at_buyer < firm.count)
    × (has firm.buys trade.at_buyer ≡ true)
unfolding has
bought_there zero trade is = subst (λ (x : Ends). (firm : Firm) × (slice_get firms x.buyer ≡ Some firm)
    × (x.at_buyer < firm.count) × (has firm.buys x.at_buyer ≡ true))
    (same_Some _ _ is) (stall, refl, lit< tt, refl)
bought_there (suc zero) trade is = subst (λ (x : Ends). (firm : Firm) × (slice_get firms x.buyer ≡ Some firm)
    × (x.at_buyer < firm.count) × (has firm.buys x.at_buyer ≡ true))
    (same_Some _ _ is) (stall, refl, lit< tt, refl)
bought_there (suc (suc t)) trade is = absurd (cc is)

whole : (f k : ℕ) (firm : Firm) → slice_get firms f ≡ Some firm → k < firm.count → own trades f k < 2
whole zero zero firm is inside = lit< tt
whole zero (suc zero) firm is inside = lit< tt
whole (suc zero) zero firm is inside = lit< tt
whole (suc zero) (suc zero) firm is inside = lit< tt
whole zero (suc (suc k)) firm is inside = let two : firm.count ≡ 2 = ap (λ (x : Firm). x.count) (sym (same_Some _ _ is))
    in absurd (omega (arith, inside, two))
whole (suc zero) (suc (suc k)) firm is inside = let two : firm.count ≡ 2 =
    ap (λ (x : Firm). x.count) (sym (same_Some _ _ is)) in absurd (omega (arith, inside, two))
whole (suc (suc f)) k firm is inside = absurd (cc is)

-- where a trade stands, by numbers
where_at : (trade : Ends) (f k : ℕ) → stands_at trade f k ≡ true
    → ((trade.seller ≡ f) × (trade.at_seller ≡ k)) ⊎ ((trade.buyer ≡ f) × (trade.at_buyer ≡ k))
where_at trade f k stands =
    elim (or_cases (trade.seller == f && trade.at_seller == k) (trade.buyer == f && trade.at_buyer == k) stands) [
      | inl h ↦ let parts = and_parts (trade.seller == f) (trade.at_seller == k) h in
          inl (eqb-true _ _ parts.0, eqb-true _ _ parts.1)
      | inr h ↦ let parts = and_parts (trade.buyer == f) (trade.at_buyer == k) h in
          inr (eqb-true _ _ parts.0, eqb-true _ _ parts.1)
    ]

-- the two trades stand nowhere both
apart_at : (f k : ℕ) → stands_at (trade_between 0 1) f k ≡ true → stands_at (trade_between 1 0) f k ≡ true → ⊥
apart_at f k one other = elim (where_at (trade_between 0 1) f k one) [
  | inl p ↦ elim (where_at (trade_between 1 0) f k other) [
    | inl q ↦ absurd (omega (arith, p.0, q.0))
    | inr q ↦
        absurd (omega (arith, p.1, q.1))
  ]
  | inr p ↦ elim (where_at (trade_between 1 0) f k other) [
    | inl q ↦ absurd (omega (arith, p.1, q.1))
    | inr q ↦
        absurd (omega (arith, p.0, q.0))
  ]
]

once_there : (f k s t : ℕ) (one other : Ends) → slice_get trades s ≡ Some one → slice_get trades t ≡ Some other
    → stands_at one f k ≡ true → stands_at other f k ≡ true → s ≡ t
once_there f k zero zero one other is is' here here' = refl
once_there f k (suc zero) (suc zero) one other is is' here here' = refl
once_there f k zero (suc zero) one other is is' here here' =
    absurd (apart_at f k (subst (λ (x : Ends). stands_at x f k ≡ true) (sym (same_Some _ _ is)) here)
    (subst (λ (x : Ends). stands_at x f k ≡ true) (sym (same_Some _ _ is')) here'))
once_there f k (suc zero) zero one other is is' here here' =
    absurd (apart_at f k (subst (λ (x : Ends). stands_at x f k ≡ true) (sym (same_Some _ _ is')) here')
    (subst (λ (x : Ends). stands_at x f k ≡ true) (sym (same_Some _ _ is)) here))
once_there f k (suc (suc s)) t one other is is' here here' = absurd (cc is)
once_there f k zero (suc (suc t)) one other is is' here here' = absurd (cc is')
once_there f k (suc zero) (suc (suc t)) one other is is' here here' = absurd (cc is')

apart_there : (t : ℕ) (trade : Ends) → slice_get trades t ≡ Some trade → trade.seller ≢ trade.buyer
apart_there zero trade is = λ e. absurd (let x = ap (λ (x : Ends). x.seller) (same_Some _ _ is) in let y =
    ap (λ (x : Ends). x.buyer) (same_Some _ _ is) in omega (arith, x, y, e))
apart_there (suc zero) trade is = λ e. absurd (let x = ap (λ (x : Ends). x.seller) (same_Some _ _ is) in let y =
    ap (λ (x : Ends). x.buyer) (same_Some _ _ is) in omega (arith, x, y, e))
apart_there (suc (suc t)) trade is = absurd (cc is)

-- two stalls, of which each sells what the other buys, are a network
pub stalls-network : IsNetwork (stall ∷ stall ∷ []) (trade_between 0 1 ∷ trade_between 1 0 ∷ [])
stalls-network = record {
  apart = apart_there;
  sold = sold_there;
  bought = bought_there;
  whole = whole;
  once =
      once_there;
}

-- each firm of the two is a stall
each_is : (f : ℕ) (firm : Firm) → slice_get firms f ≡ Some firm → stall ≡ firm
each_is zero firm is = same_Some stall firm is
each_is (suc zero) firm is = same_Some stall firm is
each_is (suc (suc f)) firm is = absurd (cc is)

-- whatever two stalls trade, their bundles are possible
pub stalls-possible : (firms : List Firm) (trades : List Ends) (on : ℕ) → firms ≡ stall ∷ stall ∷ []
    → ArePossible firms trades on
stalls-possible fs ts on are f firm is =
    subst (λ (z : Firm). IsSome (z.worth (part ts f z.count on)))
    (each_is f firm (sym (ap (λ (xs : List Firm). slice_get xs f) are) ∙ is))
    (ap is_some (stall-worth (part ts f 2 on) (set_of_within (λ k. has on (own ts f k)) 2)))

-- ---- limits

among_two : 8 ≤ most_worth_among 2
unfolding most_worth_among
among_two = lit≤ tt

-- a market of two stalls is one on which outcomes are judged
pub stalls-within : {V : Type 0} (market : Traded V) → length market.firms ≡ 2 → length market.trades ≡ 2
    → IsWithinLimits (λ (v : V). stall) (λ (v : V). 8) market
stalls-within {V} market firms trades = record {
  few_firms = omega (arith, firms);
  few_trades = omega (arith, trades);
  few_own = λ f v is. lit≤ tt;
  small_worths = λ f v is. omega arith;
  worths = λ f v is.
      subst (λ (n : ℕ). IsWorthAtMost (most_worth_among n) stall) (sym trades) (λ x a worth.
      smaller a 8 (most_worth_among 2) among_two (stall-within x a worth));
}
