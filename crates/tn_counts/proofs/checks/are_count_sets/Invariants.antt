-- What the look at each keeps.
use Rattle.std.proofs.Common.{◌≡◌, ◌<◌, ℕ, Some, slice_get}
use Rattle.tn_counts.specs.Markets.{IsCountSet}
use Rattle.tn_counts.specs.declared.set.CountSet.{CountSet}
use Rattle.tn_counts.proofs.checks.are_count_sets.Given as goal

-- the first sets are sets of the firms
abbrev pub invariant-loop-set : goal.invariant-loop-set
invariant-loop-set l = (k : ℕ) (one : CountSet) → k < l.set-index → slice_get l.sets k ≡ Some one → IsCountSet l.firms one
