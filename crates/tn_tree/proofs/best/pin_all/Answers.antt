-- What shows the clauses of `pin_all` of `src/best.rt`.
use Rattle.std.proofs.Common.{get_or, pos, arith, refl}
use Rattle.std.proofs.lemmas.Int.{ints, to_z-of_z}
use mir.Syntax.{w64}
use mir.Val.{SFits}
use Rattle.tn_tree.specs.Lists.{pin_of}
use Rattle.tn_tree.proofs.ListLemmas.{items_more}
use Rattle.tn_tree.proofs.best.pin_all.Goals as goal

pub loop-t-preserved : goal.loop-t-preserved
loop-t-preserved c =
    let small = c.requires.small c.loop-t.t c.loop-t-test.true in
    let fits : SFits w64 (get_or c.args.prices.now c.loop-t.t (pos 0)) = omega (arith, ints, small.low, small.high) in
    let made = simp to_z-of_z at c.in_ok-push.ensures.items in
    items_more (pin_of c.args.prices.now) c.loop-t.pins.items c.push.new.self.items (pin_of c.args.prices.now c.loop-t.t)
    c.loop-t.t made c.loop-t.invariant refl
