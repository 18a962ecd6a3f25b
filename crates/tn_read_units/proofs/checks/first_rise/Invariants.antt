-- What the loops of `first_rise` of `src/checks.rt` keep.
use Rattle.std.proofs.Common.{◌≡◌, None, drop}
use Rattle.tn_read_units.specs.Checks.{first_rise}
use Rattle.tn_read_units.proofs.checks.first_rise.Given as goal

abbrev pub invariant-loop-step : goal.invariant-loop-step
invariant-loop-step l = record {
  place : l.k ≡ l.step-index;
  rest : first_rise l.step-index l.before (drop l.step-index l.steps) ≡ first_rise 0 None l.steps;
}
