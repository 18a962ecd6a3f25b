-- What shows the clauses of `rates_of` of `src/held.rt`.
use Rattle.std.proofs.Common.{get_or, pos, ◌-ℤ◌, arith, refl}
use Rattle.std.proofs.lemmas.Int.{ints, to_z-of_z}
use mir.Syntax.{w64}
use mir.Val.{SFits}
use Rattle.tn_tree.specs.Lists.{rate_of}
use Rattle.tn_tree.proofs.ListLemmas.{items_more}
use Rattle.tn_tree.proofs.held.rates_of.Goals as goal

pub loop-t-preserved : goal.loop-t-preserved
loop-t-preserved c =
    let small = c.requires.small c.loop-t.t c.loop-t-test.true in
    let fits : SFits w64 (get_or c.args.prices.now c.loop-t.t (pos 0)) = omega (arith, ints, small.low, small.high) in
    let turned : SFits w64 (pos 0 -ℤ get_or c.args.prices.now c.loop-t.t (pos 0)) =
    omega (arith, ints, small.low, small.high) in
    let made = simp to_z-of_z at c.in_ok-push.ensures.items in
    items_more (rate_of c.args.prices.now) c.loop-t.rates.items c.push.new.self.items
    (rate_of c.args.prices.now c.loop-t.t) c.loop-t.t made c.loop-t.invariant refl
