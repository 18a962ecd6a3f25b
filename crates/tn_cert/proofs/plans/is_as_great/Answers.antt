-- What shows the clauses of `is_as_great` of `src/plans.rt`.
use Rattle.std.proofs.Common.{◌∙◌, ap₂, subst, ℤ, ◌*ℤ◌, ◌≤ℤ◌, rules}
use Rattle.std.specs.Prelude.{◌↔◌, IsTrue}
use Rattle.std.proofs.lemmas.Int.{to_z-of_z}
use mir.Syntax.{w128}
use mir.Val.{SFits, to_z, of_z}
use Rattle.tn_cert.proofs.plans.is_as_great.Goals as goal

pub returns : goal.returns
returns c =
    let fits : SFits w128 c.times.result = search rules in
    let product = to_z-of_z w128 c.times.result fits ∙ c.times.ensures
    ∙ ap₂ (λ (x y : ℤ). x *ℤ y) (to_z-of_z w128 c.args.over c.ranges.over)
    (to_z-of_z w128 c.args.surplus c.ranges.surplus) in
    subst (λ (z : ℤ). IsTrue c.is_at_least.result ↔ (c.args.worth ≤ℤ z)) product
    (subst (λ (w : ℤ). IsTrue c.is_at_least.result ↔ (w ≤ℤ to_z w128 (of_z w128 c.times.result)))
    (to_z-of_z w128 c.args.worth c.ranges.worth) c.is_at_least.ensures)
