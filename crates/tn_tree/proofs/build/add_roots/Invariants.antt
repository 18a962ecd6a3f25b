-- The links so far.
use Rattle.std.proofs.Common.{◌≡◌, ◌++◌, map}
use Rattle.std.specs.List.{range_with_len}
use Rattle.tn_counts.specs.Tree.{root_shape, shape_of}
use Rattle.tn_tree.proofs.build.add_roots.Given as goal

abbrev pub invariant-loop-firm : goal.invariant-loop-firm
invariant-loop-firm l = map shape_of l.links.items
    ≡ map shape_of l.fn.links.items ++ map (root_shape l.market) (range_with_len 0 l.firm)
