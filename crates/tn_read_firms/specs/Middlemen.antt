-- Middlemen: costs of purchases, gains of sales, and what a purchase is worth that is kept.
use Rattle.std.specs.Prelude.{ℕ, ◌++◌, [], ◌∷◌, ℤ, List, codes, Option, Some, None, Result, Ok}
use Rattle.serde_json.specs.Data.{Data, null}
use Rattle.serde_json.specs.Find.{get}
use Rattle.tn_base.specs.Firm.{Firm}
use Rattle.tn_base.specs.declared.side.Side.TheVariants.{Buy, Sell}
use Rattle.tn_model.specs.declared.limits.Limits.{Limits}
use Rattle.tn_said.specs.declared.place.PlaceStep.{PlaceStep}
use Rattle.tn_said.specs.declared.place.PlaceStep.TheVariants.{Key}
use Rattle.tn_said.specs.declared.place.Word.TheVariants.{Costs, Gains, Keep}
use Rattle.tn_said.specs.declared.said.Fault.{Fault}
use Rattle.tn_middle.specs.Pairs.{middle_firm}
use Rattle.tn_read_firms.specs.declared.own_numbers.OwnList.{OwnList}
use Rattle.tn_read_shapes.specs.Reading.{◌>>=◌}
use Rattle.tn_read_shapes.specs.Shapes.{number_at}
use Rattle.tn_read_references.specs.Ordered.{Listed, sides_of}
use Rattle.tn_read_references.specs.References.{firm_place}
use Rattle.tn_read_firms.specs.OwnNumbers.{no_numbers, own_numbers}

abbrev pub costs_list : ℕ → OwnList
costs_list f = record { firm = f; member = Key Costs; side = Some Buy }

abbrev pub gains_list : ℕ → OwnList
gains_list f = record { firm = f; member = Key Gains; side = Some Sell }

-- a number, none where it isn't there or null
abbrev pub keep_at : Limits → List PlaceStep → Option Data → Result (Option ℤ) Fault
keep_at limits place None = Ok None
keep_at limits place (Some null) = Ok None
keep_at limits place (Some value) = do
  number ← number_at limits.amount place value
  Ok (Some number)

-- the middleman f; the gains join the costs in one list by position
unfoldable pub middle_of : Listed → ℕ → Data → Result Firm Fault
middle_of listed f firm = do
  costs ← own_numbers listed (costs_list f) (no_numbers listed.ends f) (get (codes "costs") firm)
  numbers ← own_numbers listed (gains_list f) costs (get (codes "gains") firm)
  keep ← keep_at listed.limits (firm_place f ++ Key Keep ∷ []) (get (codes "keep") firm)
  Ok (middle_firm (sides_of listed.ends f) numbers keep)
