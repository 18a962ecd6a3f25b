-- The levels so far.
use Rattle.std.proofs.Common.{◌≡◌, ◌++◌, map}
use Rattle.std.specs.List.{range_with_len}
use Rattle.tn_counts.specs.Widths.{unbounded}
use Rattle.tn_tree.proofs.flow.add_pin_levels.Given as goal

abbrev pub invariant-loop : goal.invariant-loop
invariant-loop l = l.levels.items ≡ l.fn.levels.items ++ map (λ k. unbounded) (range_with_len 0 l.counter)
