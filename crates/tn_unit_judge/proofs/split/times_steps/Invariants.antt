-- The steps so far.
use Rattle.std.proofs.Common.{◌≡◌, map, take}
use Rattle.tn_unit_judge.specs.Split.{times_step}
use Rattle.tn_unit_judge.proofs.split.times_steps.Given as goal

abbrev pub invariant-loop-step : goal.invariant-loop-step
invariant-loop-step l = l.made.items ≡ map (times_step l.over) (take l.step-index l.steps)
