-- The utilities so far.
use Rattle.std.proofs.Common.{◌≡◌, ◌+ℤ◌, pos, None, map, get_or, option_map}
use Rattle.std.specs.Prelude.{◌*ℤ◌}
use Rattle.std.specs.List.{range_with_len}
use Rattle.tn_tree.proofs.held.utilities.Given as goal

abbrev pub invariant-loop-f : goal.invariant-loop-f
invariant-loop-f l = l.utilities.items ≡ map (λ f. option_map (λ value. pos 1 *ℤ value +ℤ get_or l.paid f (pos 0))
    (get_or l.worths f None)) (range_with_len 0 l.f)
