-- Counts of units.
use Rattle.std.specs.Prelude.{ℕ, pos, int_lt, unsigned_abs, nat_le, ◌&&◌, List, Option, Some, None, Result, Ok}
use Rattle.serde_json.specs.Data.{Data}
use Rattle.tn_said.specs.declared.fault.FaultKind.TheVariants.{AmountRange}
use Rattle.tn_said.specs.declared.place.PlaceStep.{PlaceStep}
use Rattle.tn_said.specs.declared.said.Fault.{Fault}
use Rattle.tn_read_shapes.specs.Reading.{◌>>=◌, holds}
use Rattle.tn_read_shapes.specs.Shapes.{whole_at}
use Rattle.tn_read_units.specs.Limits.{most_units_at_once}

-- so many units: a whole number from 1 on
unfoldable pub count_at : List PlaceStep → Option Data → Result ℕ Fault
count_at place value = do
  z ← whole_at place value
  few ← holds AmountRange place (int_lt (pos 0) z && nat_le (unsigned_abs z) most_units_at_once)
  Ok (unsigned_abs z)

-- the units of a trade, of which there is one where the member isn't there
abbrev pub units_at : List PlaceStep → Option Data → Result ℕ Fault
units_at place None = Ok 1
units_at place (Some value) = count_at place (Some value)
