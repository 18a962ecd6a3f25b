-- The levels so far.
use Rattle.std.proofs.Common.{◌≡◌, ◌++◌, map}
use Rattle.std.specs.List.{range_with_len}
use Rattle.tn_tree.specs.Levels.{set_level}
use Rattle.tn_tree.proofs.flow.add_set_levels.Given as goal

abbrev pub invariant-loop-i : goal.invariant-loop-i
invariant-loop-i l = l.levels.items ≡ l.fn.levels.items ++ map (set_level l.market l.nets) (range_with_len 0 l.i)
