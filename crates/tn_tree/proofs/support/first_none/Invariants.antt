-- There is a number at each place so far.
use Rattle.std.proofs.Common.{◌≡◌, ℕ, ◌<◌, ℤ, get_or, Some, None}
use Rattle.tn_tree.proofs.support.first_none.Given as goal

abbrev pub invariant-loop-f : goal.invariant-loop-f
invariant-loop-f l = (g : ℕ) → g < l.f → (number : ℤ) × (get_or l.numbers g None ≡ Some number)
