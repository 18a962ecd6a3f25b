-- The sets of a firm, as they are written.
use Rattle.std.specs.Prelude.{ℕ, ◌≤◌, ◌++◌, [], ◌∷◌, ℤ, All, unsigned_abs, nat_le, List, length, codes, Bool, not, ◌&&◌, if◌then◌else◌, Option, Some, None, is_some, Result, Ok}
use Rattle.serde_json.specs.Data.{Data, Items}
use Rattle.tn_base.specs.Arcs.{IsAtMost}
use Rattle.serde_json.specs.Find.{get}
use Rattle.tn_links.specs.declared.link.Step.{Step}
use Rattle.tn_said.specs.declared.fault.FaultKind.TheVariants.{Limit, Shape}
use Rattle.tn_said.specs.declared.place.PlaceStep.{PlaceStep}
use Rattle.tn_said.specs.declared.place.PlaceStep.TheVariants.{Index}
use Rattle.tn_said.specs.declared.place.Word.TheVariants.{Bought, From, Sold, Trades, Values}
use Rattle.tn_said.specs.declared.said.Fault.{Fault}
use Rattle.tn_read_shapes.specs.Reading.{◌>>=◌, each, holds}
use Rattle.tn_read_shapes.specs.Shapes.{few_at, number_at, object_of, whole_at}
use Rattle.tn_read_shapes.specs.declared.members.ObjectKind.TheVariants.{CountSet as CountSetObject}
use Rattle.tn_read_units.specs.Limits.{most_from, most_number, most_values}
use Rattle.tn_read_units.specs.Own.{Members, members_at}
use Rattle.tn_read_units.specs.Steps.{part_place, set_place, steps_at}
use Rattle.tn_read_units.specs.Trades.{UnitTrades}
use Rattle.tn_read_units.specs.declared.steps.SetAt.{SetAt}

-- not too many numbers, which are small
pub record AreNumbers (numbers : List ℤ) : Type 0 where
  pub few : length numbers ≤ most_values
  pub small : All (λ number. IsAtMost number most_number) numbers

-- numbers for net counts, from one on
pub record SetNumbers : Type 0 where
  pub low : ℤ
  pub numbers : List ℤ

-- a set as it is written: its trades, and its numbers or its steps
pub record WrittenSet : Type 0 where
  pub members : Members
  pub numbers : Option SetNumbers
  pub bought : List Step
  pub sold : List Step

-- a set is written by numbers or by steps, and numbers say from where on they are
abbrev pub has_one_form : Data → Bool
has_one_form set = if is_some (get (codes "from") set)
    then not (is_some (get (codes "bought") set)) && not (is_some (get (codes "sold") set))
    else not (is_some (get (codes "values") set))

-- the net count that the first number is for
unfoldable pub low_at : List PlaceStep → Data → Result ℤ Fault
low_at place value = do
  low ← whole_at place (Some value)
  near ← holds Limit place (nat_le (unsigned_abs low) most_from)
  Ok low

-- one more number; its index is the count of those before it
unfoldable pub one_value : SetAt → List ℤ → Data → Result (List ℤ) Fault
one_value at numbers value = do
  number ← number_at most_number (part_place at Values ++ Index (length numbers) ∷ []) value
  Ok (numbers ++ number ∷ [])

-- not too many numbers
unfoldable pub values_at : SetAt → Option Data → Result (List ℤ) Fault
values_at at value = do
  values ← few_at most_values (part_place at Values) value
  each (one_value at) [] values

-- the numbers of a set, from where on they are
unfoldable pub numbers_from : SetAt → Data → Option Data → Result SetNumbers Fault
numbers_from at from values = do
  low ← low_at (part_place at From) from
  numbers ← values_at at values
  Ok (record { low = low; numbers = numbers })

abbrev pub some_numbers : Result SetNumbers Fault → Result (Option SetNumbers) Fault
some_numbers read = read >>= λ numbers. Ok (Some numbers)

-- none where the set is written by steps
abbrev pub numbers_at : SetAt → Option Data → Option Data → Result (Option SetNumbers) Fault
numbers_at at None values = Ok None
numbers_at at (Some from) values = some_numbers (numbers_from at from values)

-- a set as it is written
unfoldable pub set_of : UnitTrades → SetAt → Data → Result WrittenSet Fault
set_of head at set = do
  object ← object_of CountSetObject (set_place at) (Some set)
  form ← holds Shape (set_place at) (has_one_form set)
  members ← members_at head at.firm (part_place at Trades) (get (codes "trades") set)
  numbers ← numbers_at at (get (codes "from") set) (get (codes "values") set)
  bought ← steps_at at Bought (get (codes "bought") set)
  sold ← steps_at at Sold (get (codes "sold") set)
  Ok (record { members = members; numbers = numbers; bought = bought; sold = sold })

-- one more set of firm f; its number is the count of those before it
unfoldable pub one_set : UnitTrades → ℕ → List WrittenSet → Data → Result (List WrittenSet) Fault
one_set head f sets set = do
  next ← set_of head (record { firm = f; set = length sets }) set
  Ok (sets ++ next ∷ [])

-- all sets of firm f
abbrev pub sets_of : UnitTrades → ℕ → Items → Result (List WrittenSet) Fault
sets_of head f items = each (one_set head f) [] items
