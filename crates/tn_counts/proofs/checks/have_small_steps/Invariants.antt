-- What the look at each keeps.
use Rattle.std.proofs.Common.{◌≡◌, ◌<◌, ℕ, Some, slice_get}
use Rattle.tn_base.specs.Arcs.{IsAtMost}
use Rattle.tn_counts.specs.Widths.{most_unit_amount}
use Rattle.tn_links.specs.declared.link.Step.{Step}
use Rattle.tn_counts.proofs.checks.have_small_steps.Given as goal

-- what the first steps add is small
abbrev pub invariant-loop-step : goal.invariant-loop-step
invariant-loop-step l = (k : ℕ) (one : Step) → k < l.step-index → slice_get l.steps k ≡ Some one → IsAtMost one.each most_unit_amount
