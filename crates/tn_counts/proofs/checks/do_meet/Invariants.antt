-- What the look at the members keeps.
use Rattle.std.proofs.Common.{◌≡◌, ◌<◌, ℕ, Some, false, slice_get}
use Rattle.tn_counts.specs.Laminar.{holds}
use Rattle.tn_counts.proofs.checks.do_meet.Given as goal

-- the other set has none of the first members
abbrev pub invariant-loop-trade : goal.invariant-loop-trade
invariant-loop-trade l = (i t : ℕ) → i < l.trade-index → slice_get l.one.members.items i ≡ Some t → holds l.other t ≡ false
