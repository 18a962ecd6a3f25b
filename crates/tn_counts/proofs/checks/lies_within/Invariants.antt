-- What the look at the members keeps.
use Rattle.std.proofs.Common.{◌≡◌, ◌<◌, ℕ, Some, true, slice_get}
use Rattle.tn_counts.specs.Laminar.{holds}
use Rattle.tn_counts.proofs.checks.lies_within.Given as goal

-- the outer set has each of the first members
abbrev pub invariant-loop-trade : goal.invariant-loop-trade
invariant-loop-trade l = (i t : ℕ) → i < l.trade-index → slice_get l.inner.members.items i ≡ Some t → holds l.outer t ≡ true
