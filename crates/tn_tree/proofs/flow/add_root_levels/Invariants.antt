-- The levels so far.
use Rattle.std.proofs.Common.{◌≡◌, ◌++◌, map}
use Rattle.std.specs.List.{range_with_len}
use Rattle.tn_tree.specs.Levels.{root_level}
use Rattle.tn_tree.proofs.flow.add_root_levels.Given as goal

abbrev pub invariant-loop-firm : goal.invariant-loop-firm
invariant-loop-firm l = l.levels.items ≡ l.fn.levels.items ++ map (root_level l.market l.nets) (range_with_len 0 l.firm)
