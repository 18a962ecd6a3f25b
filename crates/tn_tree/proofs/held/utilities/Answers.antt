-- What shows the clauses of `utilities` of `src/held.rt`.
use Rattle.std.proofs.Common.{get_or, pos, ◌+ℤ◌, ◌*ℤ◌, arith, option_map, None}
use Rattle.std.proofs.lemmas.Int.{ints, to_z-of_z}
use mir.Syntax.{w128}
use mir.Val.{SFits}
use Rattle.tn_tree.proofs.ListLemmas.{items_more}
use Rattle.tn_tree.proofs.held.utilities.Goals as goal

pub value_of-requires-clause-worth : goal.value_of-requires-clause-worth
value_of-requires-clause-worth c = λ value is. c.requires.worths c.loop-f.f value is

pub loop-f-preserved : goal.loop-f-preserved
loop-f-preserved c =
    let paid = c.requires.paid c.loop-f.f in
    let fits : SFits w128 (get_or c.args.paid.now c.loop-f.f (pos 0)) = omega (arith, ints, paid.low, paid.high) in
    let is = simp to_z-of_z at c.value_of.ensures in
    items_more (λ f. option_map (λ value. pos 1 *ℤ value +ℤ get_or c.args.paid.now f (pos 0))
    (get_or c.args.worths.now f None)) c.loop-f.utilities.items c.push.new.self.items c.value_of.result c.loop-f.f
    c.in_ok-push.ensures.items c.loop-f.invariant is
