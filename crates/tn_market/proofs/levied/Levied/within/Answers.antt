-- What shows the clauses of `Levied::within` of `src/levied.rt`.
use Rattle.std.proofs.lemmas.Int.{to_z-of_z}
use mir.Syntax.{w128}
use mir.Val.{SFits}
use Rattle.tn_market.proofs.levied.Levied.within.Goals as goal

pub invariant_of-result : goal.invariant_of-result
invariant_of-result g c =
    let worth : SFits w128 c.args.worth = c.ranges.worth in
    let scale : SFits w128 c.args.scale = c.ranges.scale in
    let tax : SFits w128 c.args.tax = c.ranges.tax in
    simp to_z-of_z (record {
      bound = c.requires.bound;
      worths = c.requires.worths;
      levy = record { from_one = c.requires.scaled; from_zero = c.requires.taxed; small = c.requires.small };
    })
