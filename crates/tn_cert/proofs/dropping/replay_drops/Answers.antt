-- What shows the clauses of `replay_drops` of `src/dropping.rt`.
use Rattle.std.proofs.Common.{rules, ◌∙◌, ◌^◌, ◌<◌, ℕ, ℤ, ◌-ℤ◌, Option, map, option_map, refl, sym, ap, subst}
use Rattle.std.proofs.lemmas.Int.{to_z-of_z}
use mir.Syntax.{w128}
use mir.Val.{SFits, to_z}
use Rattle.tn_base.proofs.SetLemmas.{set_of_within}
use Rattle.tn_market.specs.Signed.{contract_utility}
use Rattle.tn_cert.specs.Outcomes.{DecidesGain}
use Rattle.tn_cert.proofs.KeptLemmas.{firm_at, listed, impossible_utility, drops_decided}
use Rattle.tn_cert.proofs.dropping.replay_drops.Goals as goal

pub returns-in_default-utility_held : goal.returns-in_default-utility_held
returns-in_default-utility_held g c =
    let over_fits : SFits w128 c.args.over = c.ranges.over in
    let outcome_fits : SFits w128 c.args.outcome.now.over = search rules in
    let over_is = sym (to_z-of_z w128 c.args.over over_fits) ∙ ap (to_z w128) c.if-over-outcome.false
    ∙ to_z-of_z w128 c.args.outcome.now.over outcome_fits in
    let item = firm_at c.args.market.now.firms c.args.firm c.requires.firm in (
      over_is,
      c.in_default.ensures,
      refl,
      (
        g.V.Valuation.firm item.0,
        listed g.V.Valuation.firm c.args.market.now.firms c.args.firm item.0 item.1,
        impossible_utility c.args.market.now.trades c.args.outcome.now.over c.args.outcome.now.contracts c.args.firm
            (g.V.Valuation.firm item.0) c.args.keeps
            (sym (c.in_default-utility_held.ensures.value item.0 item.1)),
      ),
    )

pub utility_held-other-requires-clause-own : goal.utility_held-other-requires-clause-own
utility_held-other-requires-clause-own g c = λ v is.
    subst (λ (x : ℕ). x < 2 ^ (g.V.Valuation.firm v).count) (sym (c.signed_by-held.ensures v is).bundle)
    (set_of_within _ (g.V.Valuation.firm v).count)

pub returns : goal.returns
returns g c =
    let over_fits : SFits w128 c.args.over = c.ranges.over in
    let outcome_fits : SFits w128 c.args.outcome.now.over = search rules in
    let over_is = sym (to_z-of_z w128 c.args.over over_fits) ∙ ap (to_z w128) c.if-over-outcome.false
    ∙ to_z-of_z w128 c.args.outcome.now.over outcome_fits in
    let item = firm_at c.args.market.now.firms c.args.firm c.requires.firm in
    let fits : SFits w128 c.in-Some-utility_held.value = search rules in
    let firm = g.V.Valuation.firm item.0 in
    let held = (c.signed_by-held.ensures item.0 item.1).bundle in
    drops_decided (map g.V.Valuation.firm c.args.market.now.firms) c.args.market.now.trades c.args.outcome.now
    c.args.firm firm c.args.keeps c.args.gain c.args.over
    c.in-Some-utility_held.value c.utility_held-other.result c.judge_gain.result
    (listed g.V.Valuation.firm c.args.market.now.firms c.args.firm item.0 item.1) over_is c.in_default.ensures
    (sym (c.in-Some-utility_held.ensures.value item.0 item.1))
    (sym (c.utility_held-other.ensures.value item.0 item.1
    ∙ ap (contract_utility c.args.market.now.trades c.args.outcome.now.over c.args.outcome.now.contracts c.args.firm
    firm) held))
    (subst (λ (gain : Option ℤ). DecidesGain c.args.firm gain c.args.gain c.judge_gain.result)
    (c.gain_over.ensures ∙ ap (λ (value : ℤ). option_map (λ z. value -ℤ z) c.utility_held-other.result)
    (to_z-of_z w128 c.in-Some-utility_held.value fits)) c.judge_gain.ensures)
