-- What shows the clauses of `value_of` of `src/held.rt`.
use Rattle.std.proofs.Common.{◌≡◌, ◌∙◌, sym, ap, arith, pos, ◌+ℤ◌, ◌*ℤ◌, Some, option_map}
use Rattle.std.proofs.lemmas.Int.{ints, to_z-of_z}
use Rattle.std.proofs.Math.IntN.{*ℤ_comm}
use mir.Syntax.{w128}
use mir.Val.{SFits}
use Rattle.tn_base.specs.Arcs.{IsAtMost}
use Rattle.tn_tree.specs.Nets.{most_sum}
use Rattle.tn_tree.proofs.NetLemmas.{times_unit}
use Rattle.tn_tree.proofs.held.value_of.Goals as goal

pub sum-requires-clause-first : goal.sum-requires-clause-first
sum-requires-clause-first c =
    let small = c.requires.worth c.in-Some.value c.in-Some.is in
    let fit : SFits w128 c.in-Some.value = omega (arith, ints, small.low, small.high) in
    let most : IsAtMost c.in-Some.value most_sum =
    record { low = omega (arith, ints, small.low); high = omega (arith, ints, small.high) } in
    simp to_z-of_z most

pub returns-in-Some : goal.returns-in-Some
returns-in-Some c =
    let small = c.requires.worth c.in-Some.value c.in-Some.is in
    let paid = c.requires.paid in
    let fit : SFits w128 c.in-Some.value = omega (arith, ints, small.low, small.high) in
    let fit_paid : SFits w128 c.args.paid = omega (arith, ints, paid.low, paid.high) in
    let is : c.sum.result ≡ c.in-Some.value +ℤ c.args.paid = simp to_z-of_z at c.sum.ensures in
    let fits : SFits w128 c.sum.result = omega (arith, ints, small.low, small.high, paid.low, paid.high, is) in
    let turned = *ℤ_comm (pos 1) c.in-Some.value in
    let unit = times_unit c.in-Some.value in
    let whole : c.sum.result ≡ pos 1 *ℤ c.in-Some.value +ℤ c.args.paid = omega (arith, ints, is, turned, unit) in
    simp to_z-of_z (ap Some whole ∙ sym (ap (option_map (λ value. pos 1 *ℤ value +ℤ c.args.paid)) c.in-Some.is))
