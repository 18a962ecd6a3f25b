-- What shows the clauses of `times_amounts` of `src/split.rt`.
use Rattle.std.proofs.Common.{arith, pos}
use Rattle.std.proofs.lemmas.Int.{ints, to_z-of_z}
use Rattle.std.proofs.lemmas.Option.{slice_get-get_or}
use mir.Syntax.{w64}
use mir.Val.{SFits}
use Rattle.tn_counts.specs.Laminar.{amounts_at}
use Rattle.tn_unit_judge.proofs.split.times_amounts.Goals as goal

pub times-requires-clause-small : goal.times-requires-clause-small
times-requires-clause-small c =
    let own = (c.requires.small c.args.t (amounts_at c.args.amounts.now c.args.t)
    (slice_get-get_or c.args.amounts.now c.args.t (record { seller = pos 0; buyer = pos 0 }) c.requires.known)).seller in
    let fits : SFits w64 (amounts_at c.args.amounts.now c.args.t).seller = omega (arith, ints, own.low, own.high) in
    simp to_z-of_z own

pub times-requires-2-clause-small : goal.times-requires-2-clause-small
times-requires-2-clause-small c =
    let own = (c.requires.small c.args.t (amounts_at c.args.amounts.now c.args.t)
    (slice_get-get_or c.args.amounts.now c.args.t (record { seller = pos 0; buyer = pos 0 }) c.requires.known)).buyer in
    let fits : SFits w64 (amounts_at c.args.amounts.now c.args.t).buyer = omega (arith, ints, own.low, own.high) in
    simp to_z-of_z own
