-- What the count of units keeps.
use Rattle.std.proofs.Common.{◌≡◌, ◌+◌, ◌≤◌, drop}
use Rattle.tn_links.specs.Links.{room}
use Rattle.tn_links.specs.Widths.{most_units}
use Rattle.tn_links.proofs.checks.units_of.Given as goal

-- the units so far, and those of the rest
abbrev pub invariant-loop-step : goal.invariant-loop-step
invariant-loop-step l = record {
  units : room l.steps ≡ l.units + room (drop l.step-index l.steps);
  few : l.units ≤ most_units;
}
