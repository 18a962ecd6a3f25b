-- What the look at the steps keeps.
use Rattle.std.proofs.Common.{◌≡◌, ◌<◌, ◌≤◌, ℕ, Some}
use Rattle.std.specs.Prelude.{slice_get}
use Rattle.tn_base.specs.Arcs.{IsAtMost}
use Rattle.tn_links.specs.declared.link.Step.{Step}
use Rattle.tn_links.proofs.light.most_added.Given as goal

-- no unit of the first steps adds more
abbrev pub invariant-loop-step : goal.invariant-loop-step
invariant-loop-step l = record {
  before : l.fn.before ≤ l.most;
  own : (i : ℕ) (step : Step) → i < l.step-index → slice_get l.steps i ≡ Some step → IsAtMost step.each l.most;
}
