-- Lists of entries, each of which is a reference with a number.
use Rattle.std.specs.Prelude.{ℕ, ◌++◌, [], ◌∷◌, ℤ, List, slice_set, Result, Ok}
use Rattle.serde_json.specs.Data.{Data}
use Rattle.tn_base.specs.Sets.{toggle, size}
use Rattle.tn_said.specs.declared.place.PlaceStep.{PlaceStep}
use Rattle.tn_said.specs.declared.place.PlaceStep.TheVariants.{Index}
use Rattle.tn_said.specs.declared.said.Fault.{Fault}
use Rattle.tn_read_shapes.specs.Reading.{◌>>=◌}
use Rattle.tn_read_shapes.specs.Shapes.{two_at, number_at}

-- what is referred to so far, and the numbers by what they belong to
pub record Numbered : Type 0 where
  pub named : ℕ
  pub numbers : List ℤ

-- how a reference at a place is read, after those of a set
abbrev pub Refers : Type 0
Refers = List PlaceStep → ℕ → Data → Result ℕ Fault

-- what an entry of the list at a place refers to, and its number; the index of an entry is the count of those before it
unfoldable pub entry_of : Refers → List PlaceStep → ℕ → ℕ → Data → Result (ℕ × ℤ) Fault
entry_of refer place limit named entry = do
  two ← two_at (place ++ Index (size named) ∷ []) entry
  k ← refer (place ++ Index (size named) ∷ Index 0 ∷ []) named two.0
  number ← number_at limit (place ++ Index (size named) ∷ Index 1 ∷ []) two.1
  Ok (k, number)

-- one more entry
unfoldable pub one_entry : Refers → List PlaceStep → ℕ → Numbered → Data → Result Numbered Fault
one_entry refer place limit numbered entry = do
  next ← entry_of refer place limit numbered.named entry
  Ok (record { named = toggle numbered.named next.0; numbers = slice_set numbered.numbers next.0 next.1 })
