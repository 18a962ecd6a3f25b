-- The links so far.
use Rattle.std.proofs.Common.{◌≡◌, ◌++◌, map}
use Rattle.std.specs.List.{range_with_len}
use Rattle.tn_counts.specs.Tree.{seller_shape, shape_of}
use Rattle.tn_tree.proofs.build.add_sellers.Given as goal

abbrev pub invariant-loop-t : goal.invariant-loop-t
invariant-loop-t l = map shape_of l.links.items
    ≡ map shape_of l.fn.links.items ++ map (seller_shape l.market) (range_with_len 0 l.t)
