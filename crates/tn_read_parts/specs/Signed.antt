-- The outcome: contracts over a denominator.
use Rattle.std.specs.Prelude.{ℕ, [], ◌∷◌, ℤ, pos, int_le, List, codes, ◌&&◌, Option, Some, Result, Ok}
use Rattle.serde_json.specs.Data.{Data}
use Rattle.serde_json.specs.Find.{get}
use Rattle.tn_said.specs.declared.fault.FaultKind.TheVariants.{Shape, BadOver}
use Rattle.tn_model.specs.declared.contract.Outcome.{Outcome}
use Rattle.tn_said.specs.declared.place.PlaceStep.{PlaceStep}
use Rattle.tn_said.specs.declared.place.PlaceStep.TheVariants.{Key}
use Rattle.tn_said.specs.declared.place.Word.TheVariants.{Outcome as OutcomeWord, Over, Contracts}
use Rattle.tn_said.specs.declared.said.Fault.{Fault}
use Rattle.tn_read_shapes.specs.declared.members.ObjectKind.TheVariants.{Outcome as OutcomeObject}
use Rattle.tn_read_shapes.specs.Reading.{◌>>=◌, wanted, holds}
use Rattle.tn_read_shapes.specs.Shapes.{list_at, object_of, whole_at}
use Rattle.tn_read_references.specs.Ordered.{Listed}
use Rattle.tn_read_parts.specs.Lists.{contracts_at}

abbrev pub outcome_place : List PlaceStep
outcome_place = Key OutcomeWord ∷ []

abbrev pub over_place : List PlaceStep
over_place = Key OutcomeWord ∷ Key Over ∷ []

abbrev pub contracts_place : List PlaceStep
contracts_place = Key OutcomeWord ∷ Key Contracts ∷ []

-- a denominator: a whole number from 1 to the limit
unfoldable pub over_at : ℕ → List PlaceStep → Option Data → Result ℤ Fault
over_at limit place value = do
  over ← whole_at place value
  within ← holds BadOver place (int_le (pos 1) over && int_le over (pos limit))
  Ok over

-- the denominator is read before the contracts
unfoldable pub outcome_of : Listed → Data → Result Outcome Fault
outcome_of listed top = do
  part ← wanted Shape outcome_place (get (codes "outcome") top)
  object ← object_of OutcomeObject outcome_place (Some part)
  over ← over_at listed.limits.over over_place (get (codes "over") part)
  entries ← list_at contracts_place (get (codes "contracts") part)
  contracts ← contracts_at listed.names.trades contracts_place listed.limits.numerator entries
  Ok (record { over = over; contracts = contracts })
