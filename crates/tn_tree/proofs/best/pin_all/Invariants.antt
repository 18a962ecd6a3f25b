-- The pins so far.
use Rattle.std.proofs.Common.{◌≡◌, map}
use Rattle.std.specs.List.{range_with_len}
use Rattle.tn_tree.specs.Lists.{pin_of}
use Rattle.tn_tree.proofs.best.pin_all.Given as goal

abbrev pub invariant-loop-t : goal.invariant-loop-t
invariant-loop-t l = l.pins.items ≡ map (pin_of l.prices) (range_with_len 0 l.t)
