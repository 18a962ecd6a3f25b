-- What the look at each keeps.
use Rattle.std.proofs.Common.{◌≡◌, ◌<◌, ℕ, Some, slice_get}
use Rattle.tn_counts.specs.Markets.{AreSmallAmounts}
use Rattle.tn_counts.specs.declared.trade.UnitAmounts.{UnitAmounts}
use Rattle.tn_counts.proofs.checks.have_small_amounts.Given as goal

-- the amounts of the first trades are small
abbrev pub invariant-loop-each : goal.invariant-loop-each
invariant-loop-each l = (k : ℕ) (one : UnitAmounts) → k < l.each-index → slice_get l.amounts k ≡ Some one → AreSmallAmounts one
