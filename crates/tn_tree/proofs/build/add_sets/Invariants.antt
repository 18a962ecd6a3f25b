-- The links so far.
use Rattle.std.proofs.Common.{◌≡◌, ◌++◌, map, take}
use Rattle.tn_counts.specs.Tree.{shape_of}
use Rattle.tn_tree.specs.Shapes.{set_shapes}
use Rattle.tn_tree.proofs.build.add_sets.Given as goal

abbrev pub invariant-loop-i : goal.invariant-loop-i
invariant-loop-i l = map shape_of l.links.items
    ≡ map shape_of l.fn.links.items ++ set_shapes l.market 0 (take l.i l.market.sets.items)
