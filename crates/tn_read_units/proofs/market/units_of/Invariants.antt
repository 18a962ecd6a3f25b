-- What the loops of `units_of` of `src/market.rt` keep.
use Rattle.std.proofs.Common.{◌≡◌, ◌+◌, drop}
use Rattle.tn_links.specs.Links.{room}
use Rattle.tn_read_units.proofs.market.units_of.Given as goal

abbrev pub invariant-loop-step : goal.invariant-loop-step
invariant-loop-step l = l.units + room (drop l.step-index l.steps) ≡ room l.steps
