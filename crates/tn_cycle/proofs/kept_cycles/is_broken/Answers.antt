-- What shows the clauses of `is_broken` of `src/kept_cycles.rt`.
use Rattle.std.proofs.Common.{◌≡◌, ◌∙◌, sym, arith, rules}
use Rattle.std.proofs.lemmas.Int.{ints, to_z-of_z}
use Rattle.std.proofs.lemmas.Option.{same_Some}
use mir.Syntax.{w128}
use mir.Val.{SFits}
use Rattle.tn_cycle.proofs.kept_cycles.is_broken.Goals as goal

pub returns-in-Some : goal.returns-in-Some
returns-in-Some c x kept is =
    let begin_fits : SFits w128 c.args.begin = c.ranges.begin in
    let end_fits : SFits w128 c.args.end = c.ranges.end in
    let cost_fits : SFits w128 c.in-Some.cost = search rules in
    let gain_fits : SFits w128 c.gain.result = search rules in
    let gain = simp to_z-of_z at c.gain.ensures in
    let kept_is = simp to_z-of_z at kept in
    let same : c.in-Some.cost ≡ x = same_Some c.in-Some.cost x (sym c.in-Some.is ∙ is) in
    omega (arith, ints, gain, kept_is, same)
