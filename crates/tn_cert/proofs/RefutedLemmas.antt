-- A claim that is refuted isn't valid.
use Rattle.std.proofs.Common.{◌≡◌, ◌⊎◌, ℕ, inl, inr, sym, ap, ◌∙◌, subst, arith, List, ℤ, pos, ◌+ℤ◌, ◌*ℤ◌, Option, Some, None, option_map}
use Rattle.std.specs.Prelude.{IsSome, ◌<ℤ◌}
use Rattle.std.proofs.lemmas.Int.{ints}
use Rattle.std.proofs.lemmas.Option.{same_Some}
use Rattle.tn_base.specs.Firm.{Firm, payments}
use Rattle.tn_base.specs.Sets.{sum_over}
use Rattle.tn_base.specs.Exchange.{Fails}
use Rattle.tn_base.proofs.ExchangeLemmas.{none_fails_from_exchange}
use Rattle.tn_local.proofs.FirstLemmas.{triple_fails}
use Rattle.tn_said.specs.Claim.{on_market, on_firms}
use Rattle.tn_said.specs.declared.claim.MarketClaim.TheVariants.{Impossible}
use Rattle.tn_said.specs.declared.claim.FirmClaim.TheVariants.{Accepted, ExchangeFails}
use Rattle.tn_model.specs.declared.ends.Ends.{Ends}
use Rattle.tn_said.specs.declared.reason.Reason.{Reason}
use Rattle.tn_said.specs.declared.reason.Reason.TheVariants.{Impossible as ImpossibleIs, Better as BetterIs, Possible, Surplus, Gain, Exchange, Holds, Arc, Cost}
use Rattle.tn_said.specs.ClaimLimits.{IsFirmWith}
use Rattle.tn_market.specs.Equilibrium.{prices_at, utility_at, IsEquilibrium, surplus_of}
use Rattle.tn_market.specs.Graph.{exchange_arc, ArePossible}
use Rattle.tn_model.specs.Network.{part}
use Rattle.tn_cert.specs.Claims.{Gains, IsPositive, GoesRound, IsValid}
use Rattle.tn_cert.specs.Reasons.{LacksBest, RefutesEquilibrium, RefutesBetter, RefutesCycle, Refutes}
use Rattle.tn_cert.proofs.RoundLemmas.{round_unbroken, round_cost-same}

-- a number isn't none
none_some : (o : Option ℤ) (a : ℤ) → o ≡ None → o ≡ Some a → ⊥
none_some o a none some = cc (none, some)

some_none : (o : Option ℤ) → IsSome o → o ≡ None → ⊥
some_none None some none = absurd (cc some)
some_none (Some a) some none = absurd (cc none)

-- an impossible bundle has no utility
pub no_utility : (trades : List Ends) (scale : ℤ) (prices : ℕ → ℤ) (f : ℕ) (firm : Firm) (x : ℕ) (value : ℤ)
    → firm.worth x ≡ None
    → utility_at trades scale prices f firm x ≡ Some value → ⊥
no_utility trades scale prices f firm x value none some =
    none_some (utility_at trades scale prices f firm x) value
    (ap (option_map (λ a. scale *ℤ a +ℤ sum_over (payments firm.buys (prices_at trades prices f)) firm.count x)) none)
    some

-- a bundle has one gain over another
pub gain-same : (trades : List Ends) (scale : ℤ) (prices : ℕ → ℤ) (f : ℕ) (firm other : Firm) (x y : ℕ) (a b : ℤ)
    → firm ≡ other
    → Gains trades scale prices f firm x y a → Gains trades scale prices f other x y b → a ≡ b
gain-same trades scale prices f firm other x y a b same one two =
    let again = subst (λ (it : Firm). Gains trades scale prices f it x y b) (sym same) two in
    let value = same_Some one.value again.value (sym one.value_is ∙ again.value_is) in
    let less = same_Some one.other again.other (sym one.other_is ∙ again.other_is) in
    let first = one.gain_is in
    let second = again.gain_is in
    omega (arith, ints, value, less, first, second)

-- a firm without a best bundle is no firm of an equilibrium
pub lack_refuted : (firms : List Firm) (trades : List Ends) (scale : ℤ) (on : ℕ) (prices : ℕ → ℤ) (reason : Reason)
    → LacksBest firms trades scale on prices reason
    → IsEquilibrium firms trades scale on prices → ⊥
lack_refuted firms trades scale on prices (ImpossibleIs f) first equilibrium =
    let best = equilibrium f first.firm first.is in
    no_utility trades scale prices f first.firm (part trades f first.firm.count on) best.0 first.impossible best.1.is
lack_refuted firms trades scale on prices (BetterIs f bundle) (x, gain, first, _) equilibrium =
    let best = equilibrium f first.firm first.is in
    let same = same_Some first.own_value best.0 (sym first.own_is ∙ best.1.is) in
    let most = best.1.most x first.best_value first.best.is in
    let gain_is = first.gain_is in
    let gains = first.gains in
    absurd (omega (arith, ints, same, most, gain_is, gains))
lack_refuted firms trades scale on prices reason lacks equilibrium = absurd lacks

pub equilibrium_refuted : (firms : List Firm) (trades : List Ends) (on : ℕ) (prices : ℕ
    → ℤ) (claimed : ℤ) (reason : Reason) → RefutesEquilibrium firms trades on prices claimed reason
    → IsEquilibrium firms trades (pos 1) on prices × (surplus_of firms trades on ≡ Some claimed) → ⊥
equilibrium_refuted firms trades on prices claimed (Surplus surplus) refutes valid =
    refutes.2 (same_Some surplus claimed (sym refutes.1 ∙ valid.1))
equilibrium_refuted firms trades on prices claimed reason refutes valid =
    lack_refuted firms trades (pos 1) on prices reason refutes valid.0

pub better_refuted : (firms : List Firm) (trades : List Ends) (on : ℕ) (prices : ℕ
    → ℤ) (f x : ℕ) (claimed : ℤ) (reason : Reason) → RefutesBetter firms trades on prices f x claimed reason
    → IsFirmWith firms f (λ firm. Gains trades (pos 1) prices f firm x (part trades f firm.count on) claimed)
    × IsPositive claimed → ⊥
better_refuted firms trades on prices f x claimed (ImpossibleIs g) (_, (firm, is, none)) ((other, other_is, gains), _) =
    let same = same_Some firm other (sym is ∙ other_is) in
    elim (subst (λ (it : Firm). (it.worth (part trades f it.count on) ≡ None) ⊎ (it.worth x ≡ None)) same none) [
      | inl own ↦ no_utility trades (pos 1) prices f other (part trades f other.count on) gains.other own gains.other_is
      | inr wanted ↦ no_utility trades (pos 1) prices f other x gains.value wanted gains.value_is
    ]
better_refuted firms trades on prices f x claimed (Gain g (Some gain)) (
  _,
  (firm, is, gains),
  differs,
) ((other, other_is, claims), positive) =
    let same = same_Some firm other (sym is ∙ other_is) in
    let true_gain = gain-same trades (pos 1) prices f firm other x (part trades f other.count on) gain claimed same
    (subst (λ (n : ℕ). Gains trades (pos 1) prices f firm x (part trades f n on) gain)
    (ap (λ (it : Firm). it.count) same) gains) claims in
    differs (subst IsPositive (sym true_gain) positive) true_gain
better_refuted firms trades on prices f x claimed reason refutes valid = absurd refutes

pub cycle_refuted : (firms : List Firm) (trades : List Ends) (on : ℕ) (nodes : List ℕ) (claimed : ℤ) (reason : Reason)
    → RefutesCycle firms trades on nodes claimed reason
    → ArePossible firms trades on × GoesRound (exchange_arc firms trades on) nodes claimed × (claimed <ℤ pos 0) → ⊥
cycle_refuted firms trades on nodes claimed (ImpossibleIs f) first valid =
    some_none _ (valid.0 f first.firm first.is) first.impossible
cycle_refuted firms trades on nodes claimed (Arc index) refutes valid =
    round_unbroken (exchange_arc firms trades on) nodes claimed valid.1 index refutes.1
cycle_refuted firms trades on nodes claimed (Cost cost) refutes valid =
    let same = round_cost-same (exchange_arc firms trades on) nodes cost claimed refutes.1 valid.1 in
    refutes.2 (subst (λ (z : ℤ). z <ℤ pos 0) (sym same) valid.2) same
cycle_refuted firms trades on nodes claimed reason refutes valid = absurd refutes

pub impossible_refuted : (firms : List Firm) (trades : List Ends) (on f : ℕ) (reason : Reason)
    → Refutes firms trades (on_market (Impossible on f)) reason → IsValid firms trades (on_market (Impossible on f)) → ⊥
impossible_refuted firms trades on f (Possible g) (_, (firm, is, some)) (other, other_is, none) =
    some_none _ (subst (λ (it : Firm). IsSome (it.worth (part trades f it.count on)))
    (same_Some firm other (sym is ∙ other_is)) some) none
impossible_refuted firms trades on f reason refutes valid = absurd refutes

pub accepted_refuted : (firms : List Firm) (trades : List Ends) (reason : Reason) → Refutes firms trades (on_firms Accepted) reason
    → IsValid firms trades (on_firms Accepted) → ⊥
accepted_refuted firms trades (Exchange f x y at) fails valid =
    none_fails_from_exchange fails.firm (valid f fails.firm fails.is) fails.triple.x fails.triple.y fails.triple.at
    (triple_fails fails.firm fails.triple fails.first)
accepted_refuted firms trades reason refutes valid = absurd refutes

pub failure_refuted : (firms : List Firm) (trades : List Ends) (f x y : ℕ) (at : Option ℕ) (reason : Reason)
    → Refutes firms trades (on_firms (ExchangeFails f x y at)) reason
    → IsValid firms trades (on_firms (ExchangeFails f x y at)) → ⊥
failure_refuted firms trades f x y at Holds (firm, is, holds) (other, other_is, fails) =
    holds (subst (λ (it : Firm). Fails it x y at) (same_Some other firm (sym other_is ∙ is)) fails)
failure_refuted firms trades f x y at reason refutes valid = absurd refutes
