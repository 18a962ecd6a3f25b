-- Wherever the reading of edits stops, its fault is plain.
use Rattle.std.proofs.Common.{◌≡◌, ℕ, ◌+◌, ◌≤◌, Bool, true, false, cond, List, [], ◌∷◌, ◌++◌, length, Some, None, Ok, refl, arith}
use Rattle.std.specs.Prelude.{codes, bytes_eq}
use Rattle.serde_json.specs.Data.{Data}
use Rattle.serde_json.specs.Events.{items_len}
use Rattle.serde_json.specs.Find.{get}
use Rattle.tn_said.specs.declared.fault.FaultKind.TheVariants.{Shape}
use Rattle.tn_model.specs.Limits.{AreLimits, most_edits}
use Rattle.tn_said.specs.declared.session.Edit.{Edit}
use Rattle.tn_said.specs.declared.session.Edit.TheVariants.{Join as JoinOf, Leave as LeaveOf}
use Rattle.tn_said.specs.declared.place.PlaceStep.{PlaceStep}
use Rattle.tn_said.specs.declared.place.PlaceStep.TheVariants.{Index, Key}
use Rattle.tn_said.specs.declared.place.Word.TheVariants.{Edits}
use Rattle.tn_names.specs.Names.{NameLists}
use Rattle.tn_read_shapes.specs.Reading.{◌>>=◌, wanted}
use Rattle.tn_read_shapes.specs.Shapes.{few_at, text_at, two_at}
use Rattle.tn_read_shapes.proofs.LeadLemmas.{leads_as}
use Rattle.tn_read_shapes.proofs.ShapeLeads.{few_lead}
use Rattle.tn_read_shapes.proofs.ShapeStops.{few_stops, text_stops, two_stops}
use Rattle.tn_read_shapes.proofs.StopLemmas.{IsPlain, IsPlainPlace, StopsPlainly, plain_wanted, stops_after, stops_bind, stops_each_few, stops_ok}
use Rattle.tn_read_references.specs.Ordered.{Listed}
use Rattle.tn_read_references.specs.References.{firm_at, trade_at}
use Rattle.tn_read_references.proofs.ReferenceStops.{firm_at_stops, trade_at_stops}
use Rattle.tn_read_parts.specs.declared.edits.Change.{Change}
use Rattle.tn_read_parts.specs.declared.edits.Change.TheVariants.{Admit, Bar, Join, Leave}
use Rattle.tn_read_parts.specs.Edited.{admit_of, all_trades, bar_of, change_named, edit_at, edit_of, edit_place, edits_of, one_edit, trade_or_all}
use Rattle.tn_read_parts.proofs.EditLeads.{one_edit_counts}

part_plain : (k i : ℕ) → k ≤ 16384 → i ≤ 16384 → IsPlainPlace (edit_place k ++ Index i ∷ [])
part_plain k i few early = (tt, (few, (early, tt)))

module _ (names : NameLists) where
  module _ (place : List PlaceStep) (plain : IsPlainPlace place) (value : Data) where
    all_stop : StopsPlainly (trade_or_all names.trades place value)
    unfolding trade_or_all
    all_stop = stops_bind IsPlain (text_at place (Some value)) _ (text_stops place plain (Some value))
        (λ text. by_test (bytes_eq text all_trades))
      where
        by_test : (stands_for_all : Bool)
            → StopsPlainly (cond stands_for_all (Ok None) (trade_at names.trades place value >>= (λ t. Ok (Some t))))
        by_test true = stops_ok IsPlain None
        by_test false =
            stops_bind IsPlain (trade_at names.trades place value) _ (trade_at_stops place plain names.trades value)
            (λ t. stops_ok IsPlain (Some t))

    change_stops : (change : Change) → StopsPlainly (edit_of names change place value)
    unfolding edit_of
    change_stops Admit =
        stops_bind IsPlain (trade_or_all names.trades place value) _ all_stop (λ t. stops_ok IsPlain (admit_of t))
    change_stops Bar =
        stops_bind IsPlain (trade_or_all names.trades place value) _ all_stop (λ t. stops_ok IsPlain (bar_of t))
    change_stops Leave =
        stops_bind IsPlain (firm_at names.firms place (Some value)) _
        (firm_at_stops place plain names.firms (Some value)) (λ f. stops_ok IsPlain (LeaveOf f))
    change_stops Join =
        stops_bind IsPlain (firm_at names.firms place (Some value)) _
        (firm_at_stops place plain names.firms (Some value)) (λ f. stops_ok IsPlain (JoinOf f))

  edit_stops : (k : ℕ) (entry : Data) → k ≤ 16384 → StopsPlainly (edit_at names k entry)
  unfolding edit_at
  edit_stops k entry few =
      stops_bind IsPlain (two_at (edit_place k) entry) _ (two_stops (edit_place k) (tt, (few, tt)) entry) (λ two.
      stops_bind IsPlain (text_at (edit_place k ++ Index 0 ∷ []) (Some two.0)) _
      (text_stops (edit_place k ++ Index 0 ∷ []) (part_plain k 0 few (omega arith)) (Some two.0)) (λ text.
      stops_bind IsPlain (wanted Shape (edit_place k ++ Index 0 ∷ []) (change_named text)) _
      (plain_wanted Shape (edit_place k ++ Index 0 ∷ []) (change_named text) refl
      (part_plain k 0 few (omega arith))) (λ change.
      change_stops (edit_place k ++ Index 1 ∷ []) (part_plain k 1 few (omega arith)) two.1 change)))

  one_edit_stops : (edits : List Edit) (entry : Data) → length edits + 1 ≤ most_edits
      → StopsPlainly (one_edit names edits entry)
  unfolding one_edit
  one_edit_stops edits entry room =
      stops_bind IsPlain (edit_at names (length edits) entry) _ (edit_stops (length edits) entry (omega (arith, room)))
      (λ edit.
      stops_ok IsPlain (edits ++ edit ∷ []))

pub edits_stop : (listed : Listed) → AreLimits listed.limits → (top : Data) → StopsPlainly (edits_of listed top)
unfolding edits_of
edits_stop listed limits top =
    let names = listed.names in
    let limit = listed.limits.edits in
    stops_after IsPlain (λ items. items_len items ≤ limit) (few_at limit (Key Edits ∷ []) (get (codes "edits") top)) _
    (few_lead limit (Key Edits ∷ []) (get (codes "edits") top))
    (few_stops (Key Edits ∷ []) (tt, tt) limit (get (codes "edits") top)) (λ entries few.
    stops_each_few IsPlain (λ edits. Unit {0}) length most_edits (one_edit names)
    (λ edits d start. leads_as (λ next. length next ≡ length edits + 1) _ _ (λ next more. (tt, more))
    (one_edit_counts names edits d)) (λ edits d start room. one_edit_stops names edits d room) [] entries tt
    (omega (arith, few, limits.edits)))
