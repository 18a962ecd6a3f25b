-- What shows the clauses of `sum_of` of `src/worths.rt`.
use Rattle.std.proofs.Common.{◌≡◌, ◌∙◌, sym, ap, arith, ◌+ℤ◌, Some}
use Rattle.std.proofs.lemmas.Int.{ints, to_z-of_z}
use mir.Syntax.{w128}
use mir.Val.{SFits}
use Rattle.tn_base.proofs.WalkLemmas.{both_are}
use Rattle.tn_tree.proofs.worths.sum_of.Goals as goal

pub returns : goal.returns
returns c =
    let one = c.requires.first c.in_ok-first.field-0 c.in_ok-first.was in
    let two = c.requires.second c.in_ok-second.field-0 c.in_ok-second.was in
    let fit_one : SFits w128 c.in_ok-first.field-0 = omega (arith, ints, one.low, one.high) in
    let fit_two : SFits w128 c.in_ok-second.field-0 = omega (arith, ints, two.low, two.high) in
    let is : c.sum.result ≡ c.in_ok-first.field-0 +ℤ c.in_ok-second.field-0 = simp to_z-of_z at c.sum.ensures in
    let fits : SFits w128 c.sum.result = omega (arith, ints, one.low, one.high, two.low, two.high, is) in
    simp to_z-of_z (ap Some is ∙ sym (both_are c.args.first c.args.second c.in_ok-first.field-0 c.in_ok-second.field-0
    c.in_ok-first.was c.in_ok-second.was))
