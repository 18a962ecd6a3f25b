-- The shapes of values.
use Rattle.std.specs.Prelude.{ℕ, ℤ, unsigned_abs, nat_le, List, is_some, Option, Some, None, option_and_then, Result, Ok}
use Rattle.tn_said.specs.declared.fault.FaultKind.TheVariants.{Shape, Limit, AmountRange}
use Rattle.tn_said.specs.declared.place.PlaceStep.{PlaceStep}
use Rattle.tn_said.specs.declared.said.Fault.{Fault}
use Rattle.serde_json.specs.Data.{Data, Items, no_items, item}
use Rattle.serde_json.specs.Events.{items_len}
use Rattle.serde_json.specs.Find.{as_str, as_array, as_object, as_number, as_i64}
use Rattle.tn_read_shapes.specs.declared.members.ObjectKind.{ObjectKind}
use Rattle.tn_read_shapes.specs.Reading.{◌>>=◌, wanted, holds}
use Rattle.tn_read_shapes.specs.Members.{allows_all}

abbrev pub text_at : List PlaceStep → Option Data → Result (List ℕ) Fault
text_at place value = wanted Shape place (option_and_then as_str value)

abbrev pub list_at : List PlaceStep → Option Data → Result Items Fault
list_at place value = wanted Shape place (option_and_then as_array value)

-- a list, which is empty where it isn't there
abbrev pub optional_list_at : List PlaceStep → Option Data → Result Items Fault
optional_list_at place None = Ok no_items
optional_list_at place (Some value) = list_at place (Some value)

-- a list of at most so many items
unfoldable pub few_at : ℕ → List PlaceStep → Option Data → Result Items Fault
few_at limit place value = do
  items ← list_at place value
  few ← holds Limit place (nat_le (items_len items) limit)
  Ok items

abbrev pub object_at : List PlaceStep → Option Data → Result (Unit {0}) Fault
object_at place value = holds Shape place (is_some (option_and_then as_object value))

abbrev pub two_of : Items → Option (Data × Data)
two_of (item d (item e no_items)) = Some (d, e)
two_of _ = None

-- a list of two
unfoldable pub two_at : List PlaceStep → Data → Result (Data × Data) Fault
two_at place value = do
  items ← list_at place (Some value)
  wanted Shape place (two_of items)

abbrev pub three_of : Items → Option (Data × Data × Data)
three_of (item d (item e (item f no_items))) = Some (d, e, f)
three_of _ = None

-- a list of three
unfoldable pub three_at : List PlaceStep → Data → Result (Data × Data × Data) Fault
three_at place value = do
  items ← list_at place (Some value)
  wanted Shape place (three_of items)

-- a whole number is one that fits 64 bits with a sign
abbrev pub whole_at : List PlaceStep → Option Data → Result ℤ Fault
whole_at place value = wanted Shape place (option_and_then as_i64 (option_and_then as_number value))

-- a whole number of at most this size
unfoldable pub number_in : ℕ → List PlaceStep → Option Data → Result ℤ Fault
number_in limit place value = do
  z ← whole_at place value
  small ← holds AmountRange place (nat_le (unsigned_abs z) limit)
  Ok z

-- the same of a value that is there
abbrev pub number_at : ℕ → List PlaceStep → Data → Result ℤ Fault
number_at limit place value = number_in limit place (Some value)

-- an object with allowed members alone
unfoldable pub object_of : ObjectKind → List PlaceStep → Option Data → Result (Unit {0}) Fault
object_of kind place value = do
  members ← wanted Shape place (option_and_then as_object value)
  holds Shape place (allows_all kind members)
