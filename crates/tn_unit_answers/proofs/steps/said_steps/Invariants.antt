-- The steps so far.
use Rattle.std.proofs.Common.{◌≡◌, take}
use Rattle.tn_unit_answers.specs.Steps.{said_steps}
use Rattle.tn_unit_answers.proofs.steps.said_steps.Given as goal

abbrev pub invariant-loop-step : goal.invariant-loop-step
invariant-loop-step l = l.said.items ≡ said_steps (take l.step-index l.steps)
