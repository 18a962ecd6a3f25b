-- The marks so far.
use Rattle.std.proofs.Common.{◌≡◌, map}
use Rattle.std.specs.List.{range_with_len}
use Rattle.tn_tree.proofs.pinned.no_marks.Given as goal

abbrev pub invariant-loop : goal.invariant-loop
invariant-loop l = l.passed.items ≡ map (λ t. 0) (range_with_len 0 l.counter)
