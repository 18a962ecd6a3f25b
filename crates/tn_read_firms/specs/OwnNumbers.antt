-- The numbers of a firm's own trades, by position.
use Rattle.std.specs.Prelude.{ℕ, [], ◌∷◌, ℤ, pos, List, length, replicate, Option, Result, Ok}
use Rattle.serde_json.specs.Data.{Data}
use Rattle.tn_model.specs.declared.ends.Ends.{Ends}
use Rattle.tn_said.specs.declared.place.PlaceStep.{PlaceStep}
use Rattle.tn_said.specs.declared.place.PlaceStep.TheVariants.{Index, Key}
use Rattle.tn_said.specs.declared.place.Word.TheVariants.{Firms}
use Rattle.tn_said.specs.declared.said.Fault.{Fault}
use Rattle.tn_read_firms.specs.declared.own_numbers.OwnList.{OwnList}
use Rattle.tn_read_shapes.specs.Reading.{◌>>=◌, each}
use Rattle.tn_read_shapes.specs.Shapes.{optional_list_at}
use Rattle.tn_read_references.specs.Ordered.{Listed, sides_of}
use Rattle.tn_read_references.specs.References.{new_own}
use Rattle.tn_read_references.specs.Entries.{Numbered, entry_of, one_entry}

abbrev pub own_list_place : OwnList → List PlaceStep
own_list_place list = Key Firms ∷ Index list.firm ∷ list.member ∷ []

-- the position and the number of an entry, and the numbers with one more entry
abbrev pub own_entry : Listed → OwnList → ℕ → Data → Result (ℕ × ℤ) Fault
own_entry listed list named entry =
    entry_of (new_own listed list.firm list.side) (own_list_place list) listed.limits.amount named entry

abbrev pub one_own : Listed → OwnList → Numbered → Data → Result Numbered Fault
one_own listed list numbered entry =
    one_entry (new_own listed list.firm list.side) (own_list_place list) listed.limits.amount numbered entry

-- an own trade that no entry names has the number 0
abbrev pub no_numbers : List Ends → ℕ → List ℤ
no_numbers trades f = replicate (length (sides_of trades f)) (pos 0)

-- the numbers by position, with those that the entries of a list give
unfoldable pub own_numbers : Listed → OwnList → List ℤ → Option Data → Result (List ℤ) Fault
own_numbers listed list numbers value = do
  entries ← optional_list_at (own_list_place list) value
  numbered ← each (one_own listed list) (record { named = 0; numbers = numbers }) entries
  Ok numbered.numbers
