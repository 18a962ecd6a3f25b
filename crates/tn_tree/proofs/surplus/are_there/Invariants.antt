-- The worths so far are there.
use Rattle.std.proofs.Common.{◌≡◌, ℕ, ◌<◌, ℤ, Some, None, get_or}
use Rattle.tn_tree.proofs.surplus.are_there.Given as goal

abbrev pub invariant-loop-f : goal.invariant-loop-f
invariant-loop-f l = (k : ℕ) → k < l.f → (worth : ℤ) × (get_or l.worths k None ≡ Some worth)
