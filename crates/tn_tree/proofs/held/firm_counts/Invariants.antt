-- The firms so far.
use Rattle.std.proofs.Common.{◌≡◌, None, map, get_or}
use Rattle.std.specs.List.{range_with_len}
use Rattle.tn_tree.specs.Held.{firm_count}
use Rattle.tn_tree.proofs.held.firm_counts.Given as goal

abbrev pub invariant-loop-f : goal.invariant-loop-f
invariant-loop-f l = l.firms.items ≡ map (λ f. firm_count (get_or l.worths f None) (get_or l.utilities f None)
    (get_or l.bests f None)) (range_with_len 0 l.f)
