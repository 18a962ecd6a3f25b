-- The levels so far.
use Rattle.std.proofs.Common.{◌≡◌, ◌+◌, map, get_or}
use Rattle.std.specs.List.{range_with_len}
use Rattle.tn_tree.proofs.solve.levels_from.Given as goal

abbrev pub invariant-loop-t : goal.invariant-loop-t
invariant-loop-t l = l.counts.items ≡ map (λ t. get_or l.levels (l.place + t) 0) (range_with_len 0 l.t)
