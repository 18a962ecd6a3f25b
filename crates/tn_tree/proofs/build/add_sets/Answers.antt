-- What shows the clauses of `add_sets` of `src/build.rt`.
use Rattle.std.proofs.Common.{◌≡◌, ◌+◌, ◌∙◌, map, take, sym, ap, arith}
use Rattle.tn_counts.specs.Tree.{set_shape, shape_of}
use Rattle.tn_counts.proofs.PlaceLemmas.{item_at}
use Rattle.tn_tree.specs.Shapes.{set_shapes}
use Rattle.tn_tree.proofs.ListLemmas.{set_shapes_more, shapes_more}
use Rattle.tn_tree.proofs.build.add_sets.Goals as goal

pub loop-i-preserved : goal.loop-i-preserved
loop-i-preserved c =
    let found = item_at c.args.market.now.sets.items c.loop-i.i (omega arith) in
    let place : 0 + c.loop-i.i ≡ c.loop-i.i = omega arith in
    shapes_more c.loop-i.links.items c.push.new.self.items c.in_ok-set_link.field-0 (map shape_of c.args.links.now.items)
    (set_shapes c.args.market.now 0 (take c.loop-i.i c.args.market.now.sets.items))
    (set_shapes c.args.market.now 0 (take (c.loop-i.i + 1) c.args.market.now.sets.items))
    (set_shape c.args.market.now (0 + c.loop-i.i) found.0) c.in_ok-push.ensures.items c.loop-i.invariant
    (c.in_ok-set_link.ensures found.0 found.1 ∙ ap (λ k. set_shape c.args.market.now k found.0) (sym place))
    (set_shapes_more c.args.market.now c.args.market.now.sets.items 0 c.loop-i.i found.0 found.1)
