-- What shows the clauses of `level_from` of `src/worths.rt`.
use Rattle.std.proofs.Common.{arith, pos, ◌+ℤ◌}
use Rattle.std.specs.Prelude.{◌<ℤ◌}
use Rattle.std.proofs.lemmas.Int.{ints, to_z-of_z}
use mir.Syntax.{w128}
use mir.Val.{SFits}
use Rattle.tn_tree.proofs.FirmLemmas.{below_zero}
use Rattle.tn_tree.proofs.worths.level_from.Goals as goal

pub returns-then-level-lt0-clause-none : goal.returns-then-level-lt0-clause-none
returns-then-level-lt0-clause-none c = λ none.
    let net = c.requires.net in
    let back = c.requires.back in
    let is = c.from.ensures in
    let fit_net : SFits w128 c.args.net = omega (arith, ints, net.low, net.high) in
    let fit_back : SFits w128 c.from.result = omega (arith, ints, is, back) in
    let fits : SFits w128 (c.args.net +ℤ c.from.result) = omega (arith, ints, is, back, net.low, net.high) in
    let test = simp to_z-of_z at c.if-level-lt0.true in
    let order : (c.args.net +ℤ c.from.result) <ℤ pos 0 = grind (arith, ints, test) in
    below_zero (c.args.net +ℤ pos c.args.back) (omega (arith, ints, order, is))
