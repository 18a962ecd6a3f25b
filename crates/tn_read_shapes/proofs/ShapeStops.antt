-- Shapes stop reading only with plain faults.
use Rattle.std.proofs.Common.{ℕ, List, Option, Some, None, refl}
use Rattle.std.specs.Prelude.{nat_le, unsigned_abs, is_some, option_and_then}
use Rattle.serde_json.specs.Data.{Data, no_items}
use Rattle.serde_json.specs.Events.{items_len}
use Rattle.serde_json.specs.Find.{as_str, as_array, as_object, as_number, as_i64}
use Rattle.tn_said.specs.declared.fault.FaultKind.TheVariants.{Shape, Limit, AmountRange}
use Rattle.tn_said.specs.declared.place.PlaceStep.{PlaceStep}
use Rattle.tn_read_shapes.specs.declared.members.ObjectKind.{ObjectKind}
use Rattle.tn_read_shapes.specs.Reading.{wanted, holds}
use Rattle.tn_read_shapes.specs.Shapes.{text_at, list_at, optional_list_at, few_at, object_at, three_of, three_at, two_of, two_at, whole_at, number_in, object_of}
use Rattle.tn_read_shapes.specs.Members.{allows_all}
use Rattle.tn_read_shapes.proofs.StopLemmas.{StopsPlainly, IsPlain, IsPlainPlace, stops_ok, stops_bind, plain_wanted, plain_holds}

module _ (place : List PlaceStep) (plain : IsPlainPlace place) where
  pub text_stops : (value : Option Data) → StopsPlainly (text_at place value)
  text_stops value = plain_wanted Shape place (option_and_then as_str value) refl plain

  pub list_stops : (value : Option Data) → StopsPlainly (list_at place value)
  list_stops value = plain_wanted Shape place (option_and_then as_array value) refl plain

  pub optional_list_stops : (value : Option Data) → StopsPlainly (optional_list_at place value)
  optional_list_stops None = stops_ok IsPlain no_items
  optional_list_stops (Some value) = list_stops (Some value)

  pub few_stops : (limit : ℕ) (value : Option Data) → StopsPlainly (few_at limit place value)
  unfolding few_at
  few_stops limit value =
      stops_bind IsPlain (list_at place value) _ (list_stops value) (λ items.
      stops_bind IsPlain (holds Limit place (nat_le (items_len items) limit)) _
      (plain_holds Limit place (nat_le (items_len items) limit) refl plain) (λ few. stops_ok IsPlain items))

  pub object_at_stops : (value : Option Data) → StopsPlainly (object_at place value)
  object_at_stops value = plain_holds Shape place (is_some (option_and_then as_object value)) refl plain

  pub object_stops : (kind : ObjectKind) (value : Option Data) → StopsPlainly (object_of kind place value)
  unfolding object_of
  object_stops kind value =
      stops_bind IsPlain (wanted Shape place (option_and_then as_object value)) _
      (plain_wanted Shape place (option_and_then as_object value) refl plain) (λ members.
      plain_holds Shape place (allows_all kind members) refl plain)

  pub two_stops : (value : Data) → StopsPlainly (two_at place value)
  unfolding two_at
  two_stops value =
      stops_bind IsPlain (list_at place (Some value)) _ (list_stops (Some value))
      (λ items. plain_wanted Shape place (two_of items) refl plain)

  pub three_stops : (value : Data) → StopsPlainly (three_at place value)
  unfolding three_at
  three_stops value =
      stops_bind IsPlain (list_at place (Some value)) _ (list_stops (Some value))
      (λ items. plain_wanted Shape place (three_of items) refl plain)

  pub whole_stops : (value : Option Data) → StopsPlainly (whole_at place value)
  whole_stops value = plain_wanted Shape place (option_and_then as_i64 (option_and_then as_number value)) refl plain

  pub number_stops : (limit : ℕ) (value : Option Data) → StopsPlainly (number_in limit place value)
  unfolding number_in
  number_stops limit value =
      stops_bind IsPlain (whole_at place value) _ (whole_stops value) (λ z.
      stops_bind IsPlain (holds AmountRange place (nat_le (unsigned_abs z) limit)) _
      (plain_holds AmountRange place (nat_le (unsigned_abs z) limit) refl plain) (λ small. stops_ok IsPlain z))
