-- Steps: how many units, and what each of them adds.
use Rattle.std.specs.Prelude.{◌≤◌, ◌++◌, [], ◌∷◌, nat_le, All, List, length, Option, Some, Result, Ok}
use Rattle.serde_json.specs.Data.{Data}
use Rattle.serde_json.specs.Events.{items_len}
use Rattle.tn_base.specs.Arcs.{IsAtMost}
use Rattle.tn_links.specs.declared.link.Step.{Step}
use Rattle.tn_said.specs.declared.fault.FaultKind.TheVariants.{Limit}
use Rattle.tn_said.specs.declared.place.PlaceStep.{PlaceStep}
use Rattle.tn_said.specs.declared.place.PlaceStep.TheVariants.{Index, Key}
use Rattle.tn_said.specs.declared.place.Word.{Word}
use Rattle.tn_said.specs.declared.place.Word.TheVariants.{Firms, Sets}
use Rattle.tn_said.specs.declared.said.Fault.{Fault}
use Rattle.tn_read_shapes.specs.Reading.{◌>>=◌, each, holds}
use Rattle.tn_read_shapes.specs.Shapes.{number_at, optional_list_at, two_at}
use Rattle.tn_read_units.specs.Counts.{count_at}
use Rattle.tn_read_units.specs.Limits.{most_number, most_steps, most_units_at_once}
use Rattle.tn_read_units.specs.declared.steps.SetAt.{SetAt}

-- a step has some units, and each adds a number of a firm
pub record IsStep (step : Step) : Type 0 where
  pub some : 1 ≤ step.units
  pub few : step.units ≤ most_units_at_once
  pub small : IsAtMost step.each most_number

-- not too many steps
pub record AreSteps (steps : List Step) : Type 0 where
  pub few : length steps ≤ most_steps
  pub each : All IsStep steps

-- where a set is, and a member of it
abbrev pub set_place : SetAt → List PlaceStep
set_place at = Key Firms ∷ Index at.firm ∷ Key Sets ∷ Index at.set ∷ []

abbrev pub part_place : SetAt → Word → List PlaceStep
part_place at word = set_place at ++ Key word ∷ []

-- the step of an entry
unfoldable pub step_at : List PlaceStep → Data → Result Step Fault
step_at place entry = do
  two ← two_at place entry
  units ← count_at (place ++ Index 0 ∷ []) (Some two.0)
  each ← number_at most_number (place ++ Index 1 ∷ []) two.1
  Ok (record { units = units; each = each })

-- one more step; the index of an entry is the count of those before it
unfoldable pub one_step : SetAt → Word → List Step → Data → Result (List Step) Fault
one_step at word steps entry = do
  step ← step_at (part_place at word ++ Index (length steps) ∷ []) entry
  Ok (steps ++ step ∷ [])

-- not too many steps, none where the member isn't there
unfoldable pub steps_at : SetAt → Word → Option Data → Result (List Step) Fault
steps_at at word value = do
  entries ← optional_list_at (part_place at word) value
  few ← holds Limit (part_place at word) (nat_le (items_len entries) most_steps)
  each (one_step at word) [] entries
