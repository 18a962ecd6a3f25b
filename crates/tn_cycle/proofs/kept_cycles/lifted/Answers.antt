-- What shows the clauses of `lifted` of `src/kept_cycles.rt`.
use Rattle.std.proofs.Common.{rules}
use Rattle.std.proofs.lemmas.Int.{to_z-of_z}
use mir.Syntax.{w128}
use mir.Val.{SFits}
use Rattle.tn_cycle.proofs.KeptCycleLemmas.{lifted_some}
use Rattle.tn_cycle.proofs.kept_cycles.lifted.Goals as goal

pub returns-in-Some-clause-others : goal.returns-in-Some-clause-others
returns-in-Some-clause-others c other =
    let label_fits : SFits w128 c.args.label = c.ranges.label in
    let cost_fits : SFits w128 c.in-Some.cost = search rules in
    let lack_fits : SFits w128 c.lack.result = search rules in
    let result_fits : SFits w128 c.greater_of.result = search rules in
    let second = simp to_z-of_z at c.greater_of.ensures.second in
    let one = simp to_z-of_z at c.greater_of.ensures.one in
    let lack = simp to_z-of_z at c.lack.ensures in
    simp to_z-of_z (lifted_some c.args.least c.args.label c.in-Some.cost c.lack.result c.greater_of.result c.args.cost
    c.in-Some.is lack c.greater_of.ensures.first second one)
