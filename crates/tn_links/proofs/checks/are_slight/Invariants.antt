-- What the look at the steps keeps.
use Rattle.std.proofs.Common.{◌≡◌, ◌<◌, ℕ, Some}
use Rattle.std.specs.Prelude.{slice_get}
use Rattle.tn_base.specs.Arcs.{IsAtMost}
use Rattle.tn_links.specs.declared.link.Step.{Step}
use Rattle.tn_links.specs.Widths.{most_each}
use Rattle.tn_links.proofs.checks.are_slight.Given as goal

-- no unit of the first steps adds much
abbrev pub invariant-loop-step : goal.invariant-loop-step
invariant-loop-step l = (i : ℕ) (step : Step) → i < l.step-index → slice_get l.steps i ≡ Some step
    → IsAtMost step.each most_each
