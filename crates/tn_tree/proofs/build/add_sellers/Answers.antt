-- What shows the clauses of `add_sellers` of `src/build.rt`.
use Rattle.std.proofs.Common.{◌+◌, map, arith}
use Rattle.std.specs.List.{range_with_len}
use Rattle.std.proofs.lemmas.List.FromFn.{map-range_with_len_more}
use Rattle.tn_counts.specs.Tree.{seller_shape, shape_of}
use Rattle.tn_tree.proofs.ListLemmas.{shapes_more}
use Rattle.tn_tree.proofs.build.add_sellers.Goals as goal

pub loop-t-preserved : goal.loop-t-preserved
loop-t-preserved c =
    shapes_more c.loop-t.links.items c.push.new.self.items c.in_ok-seller_link.field-0 (map shape_of c.args.links.now.items)
    (map (seller_shape c.args.market.now) (range_with_len 0 c.loop-t.t))
    (map (seller_shape c.args.market.now) (range_with_len 0 (c.loop-t.t + 1)))
    (seller_shape c.args.market.now c.loop-t.t) c.in_ok-push.ensures.items c.loop-t.invariant
    c.in_ok-seller_link.ensures
    (map-range_with_len_more (seller_shape c.args.market.now) 0 c.loop-t.t c.loop-t.t (omega arith))
