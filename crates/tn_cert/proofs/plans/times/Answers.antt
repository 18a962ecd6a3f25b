-- What shows the clauses of `times` of `src/plans.rt`.
use Rattle.std.proofs.Common.{◌*◌, ◌∙◌, ap, ap₂, arith, ℤ, ◌*ℤ◌}
use Rattle.std.proofs.lemmas.Int.{ints, to_z-of_z}
use mir.Syntax.{w128}
use mir.Val.{SFits, to_z, of_z}
use Rattle.tn_firm_laws.proofs.BoundLemmas.{times_small}
use Rattle.tn_model.specs.Limits.{most_claimed_over, most_number, most_parts}
use Rattle.tn_cert.proofs.plans.times.Goals as goal

pub returns : goal.returns
returns c =
    let small = times_small c.args.weight c.args.worth (most_parts * most_claimed_over) most_number c.requires.weight
    c.requires.worth in
    let low = small.low in
    let high = small.high in
    let fits : SFits w128 (c.args.weight *ℤ c.args.worth) = omega (arith, ints, low, high) in
    ap (λ (z : ℤ). to_z w128 (of_z w128 z)) (ap₂ (λ (x y : ℤ). x *ℤ y) (to_z-of_z w128 c.args.weight c.ranges.weight)
    (to_z-of_z w128 c.args.worth c.ranges.worth))
    ∙ to_z-of_z w128 (c.args.weight *ℤ c.args.worth) fits
