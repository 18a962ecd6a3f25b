-- The links so far.
use Rattle.std.proofs.Common.{◌≡◌, ◌++◌, map, take}
use Rattle.tn_counts.specs.Tree.{pin_shape, shape_of}
use Rattle.tn_tree.proofs.build.add_pins.Given as goal

abbrev pub invariant-loop-pin : goal.invariant-loop-pin
invariant-loop-pin l = map shape_of l.links.items
    ≡ map shape_of l.fn.links.items ++ map (pin_shape l.market) (take l.pin-index l.pins)
