-- What shows the clauses of `bends` of `src/faults.rt`.
use Rattle.std.proofs.Common.{arith}
use Rattle.std.proofs.lemmas.Int.{ints, to_z-of_z}
use mir.Syntax.{w128}
use mir.Val.{SFits}
use Rattle.tn_laminar.proofs.FaultLemmas.{twice_is, sum_is}
use Rattle.tn_laminar.proofs.faults.bends.Goals as goal

pub returns : goal.returns
returns c =
    let before : SFits w128 c.args.before = c.ranges.before in
    let number : SFits w128 c.args.number = c.ranges.number in
    let after : SFits w128 c.args.after = c.ranges.after in
    simp to_z-of_z (rw (
      twice_is c.args.number c.requires.small,
      sum_is c.args.before c.args.after c.requires.small_before c.requires.small_after,
    )
    (grind (arith, ints)))
