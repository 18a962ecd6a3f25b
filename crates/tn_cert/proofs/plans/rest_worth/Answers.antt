-- What shows the clauses of `rest_worth` of `src/plans.rt`.
use Rattle.std.proofs.Common.{◌*◌, ◌∙◌, sym, ap, ap₂, subst, arith, pos, ℤ, ◌-ℤ◌, ◌*ℤ◌, rules}
use Rattle.std.specs.Prelude.{Option, unwrap_or}
use Rattle.std.proofs.lemmas.Int.{to_z-of_z}
use mir.Syntax.{w128}
use mir.Val.{SFits}
use Rattle.tn_base.specs.Arcs.{IsAtMost}
use Rattle.tn_firm_laws.proofs.BoundLemmas.{times_small}
use Rattle.tn_market.proofs.AscentLemmas.{smaller}
use Rattle.tn_market.specs.Widths.{most_worth}
use Rattle.tn_model.specs.Limits.{most_claimed_over, most_parts}
use Rattle.tn_cert.specs.Limits.{most_weighed_worth}
use Rattle.tn_cert.specs.Plans.{share_of}
use Rattle.tn_cert.proofs.plans.rest_worth.Goals as goal

pub returns-clause-worth : goal.returns-clause-worth
returns-clause-worth c =
    let rest_fits : SFits w128 c.rest_of.result = search rules in
    let empty_fits : SFits w128 c.empty_worth.result = search rules in
    let fits : SFits w128 c.times.result = search rules in
    to_z-of_z w128 c.times.result fits ∙ c.times.ensures
    ∙ ap₂ (λ (x y : ℤ). x *ℤ y)
    (to_z-of_z w128 c.rest_of.result rest_fits ∙ c.rest_of.ensures.rest
    ∙ ap (λ (z : ℤ). z -ℤ share_of c.args.plan.now c.args.f) (to_z-of_z w128 c.args.over c.ranges.over))
    (to_z-of_z w128 c.empty_worth.result empty_fits ∙ sym
    (ap (λ (o : Option ℤ). unwrap_or o (pos 0)) c.empty_worth.ensures.worth))

pub returns-clause-small : goal.returns-clause-small
returns-clause-small c =
    let rest_fits : SFits w128 c.rest_of.result = search rules in
    let empty_fits : SFits w128 c.empty_worth.result = search rules in
    let fits : SFits w128 c.times.result = search rules in
    let product = to_z-of_z w128 c.times.result fits ∙ c.times.ensures
    ∙ ap₂ (λ (x y : ℤ). x *ℤ y) (to_z-of_z w128 c.rest_of.result rest_fits)
    (to_z-of_z w128 c.empty_worth.result empty_fits) in
    subst (λ (z : ℤ). IsAtMost z (most_parts * most_weighed_worth)) (sym product)
    (smaller (c.rest_of.result *ℤ c.empty_worth.result) ((most_parts * most_claimed_over) * most_worth)
    (most_parts * most_weighed_worth) (omega arith)
    (times_small c.rest_of.result c.empty_worth.result (most_parts * most_claimed_over) most_worth
    c.rest_of.ensures.small c.empty_worth.ensures.small))
