-- No firm so far gains anything.
use Rattle.std.proofs.Common.{◌≡◌, ℕ, ◌<◌, Some, pos}
use Rattle.tn_tree.specs.Held.{gain_at}
use Rattle.tn_unit_judge.proofs.drops.first_gainer.Given as goal

abbrev pub invariant-loop-f : goal.invariant-loop-f
invariant-loop-f l = (g : ℕ) → g < l.f → gain_at l.firms g ≡ Some (pos 0)
