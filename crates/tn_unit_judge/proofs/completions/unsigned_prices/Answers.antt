-- What shows the clauses of `unsigned_prices` of `src/completions.rt`.
use Rattle.std.proofs.Common.{◌+◌, length, pos, arith, refl}
use Rattle.std.proofs.lemmas.Int.{ints, to_z-of_z}
use mir.Syntax.{w128}
use mir.Val.{SFits}
use Rattle.tn_tree.specs.Lists.{price_in}
use Rattle.tn_tree.proofs.ListLemmas.{items_more}
use Rattle.tn_unit_judge.proofs.completions.unsigned_prices.Goals as goal

pub loop-t-preserved : goal.loop-t-preserved
loop-t-preserved c =
    let below = c.loop-t-test.true in
    let sized = c.requires.sized in
    let small = c.requires.beside (length c.args.contracts.now + c.loop-t.t) (pos 0) (omega (arith, below, sized)) in
    let fits : SFits w128 (price_in c.args.beside.now (length c.args.contracts.now + c.loop-t.t)) =
    omega (arith, ints, small.low, small.high) in
    let made = simp to_z-of_z at c.in_ok-push.ensures.items in
    items_more (λ t. price_in c.args.beside.now (length c.args.contracts.now + t)) c.loop-t.prices.items
    c.push.new.self.items (price_in c.args.beside.now (length c.args.contracts.now + c.loop-t.t)) c.loop-t.t made
    c.loop-t.invariant refl
