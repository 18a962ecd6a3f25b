-- What shows the clauses of `add_roots` of `src/build.rt`.
use Rattle.std.proofs.Common.{◌+◌, map, arith}
use Rattle.std.specs.List.{range_with_len}
use Rattle.std.proofs.lemmas.List.FromFn.{map-range_with_len_more}
use Rattle.tn_counts.specs.Tree.{root_shape, shape_of}
use Rattle.tn_tree.proofs.ListLemmas.{shapes_more}
use Rattle.tn_tree.proofs.build.add_roots.Goals as goal

pub loop-firm-preserved : goal.loop-firm-preserved
loop-firm-preserved c =
    shapes_more c.loop-firm.links.items c.push.new.self.items c.in_ok-root_link.field-0 (map shape_of c.args.links.now.items)
    (map (root_shape c.args.market.now) (range_with_len 0 c.loop-firm.firm))
    (map (root_shape c.args.market.now) (range_with_len 0 (c.loop-firm.firm + 1)))
    (root_shape c.args.market.now c.loop-firm.firm) c.in_ok-push.ensures.items c.loop-firm.invariant
    c.in_ok-root_link.ensures
    (map-range_with_len_more (root_shape c.args.market.now) 0 c.loop-firm.firm c.loop-firm.firm (omega arith))
