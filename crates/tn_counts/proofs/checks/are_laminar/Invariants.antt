-- What the look at the sets keeps.
use Rattle.std.proofs.Common.{ℕ, ◌<◌}
use Rattle.tn_counts.proofs.CheckLemmas.{AreNestedBelow}
use Rattle.tn_counts.proofs.checks.are_laminar.Given as goal

-- in each of the first ones all before it are nested
abbrev pub invariant-loop-k : goal.invariant-loop-k
invariant-loop-k l = (k : ℕ) → k < l.k → AreNestedBelow l.sets k k
