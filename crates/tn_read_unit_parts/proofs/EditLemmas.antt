-- What the edits are that reading gives, and where their reading stops.
use Rattle.std.proofs.Common.{◌≡◌, ℕ, ◌+◌, ◌*◌, ◌<◌, ◌≤◌, Bool, true, false, cond, List, [], ◌∷◌, ◌++◌, length, Option, Some, None, Ok, Err, refl, subst, sym, arith}
use Rattle.std.specs.Prelude.{codes, bytes_eq, nat_le, unsigned_abs, All, IfSome}
use Rattle.std.proofs.lemmas.List.{length-append}
use Rattle.std.proofs.lemmas.List.Elements.{All-nil, All-push}
use Rattle.serde_json.specs.Data.{Data}
use Rattle.serde_json.specs.Events.{items_len}
use Rattle.serde_json.specs.Find.{get}
use Rattle.serde_json.specs.View.{items_view}
use Rattle.serde_json.specs.declared.value.Value.{Value}
use Rattle.tn_counts.specs.Counts.{trade_at}
use Rattle.tn_model.specs.Limits.{most_edits}
use Rattle.tn_said.specs.declared.fault.FaultKind.TheVariants.{Limit, Shape}
use Rattle.tn_said.specs.declared.place.PlaceStep.{PlaceStep}
use Rattle.tn_said.specs.declared.place.PlaceStep.TheVariants.{Index, Key}
use Rattle.tn_said.specs.declared.place.Word.TheVariants.{Edits}
use Rattle.tn_said.specs.declared.session.UnitEdit.{UnitEdit}
use Rattle.tn_said.specs.declared.session.UnitEdit.TheVariants.{Admit, Join, Leave}
use Rattle.tn_read_parts.specs.Edited.{all_trades, change_named, edit_place, trade_or_all}
use Rattle.tn_read_parts.specs.declared.edits.Change.{Change}
use Rattle.tn_read_parts.specs.declared.edits.Change.TheVariants.{Admit as AdmitIs, Bar as BarIs, Join as JoinIs, Leave as LeaveIs}
use Rattle.tn_read_references.specs.References.{firm_at, trade_at as trade_named}
use Rattle.tn_read_references.proofs.ReferenceLeads.{firm_at_leads, trade_leads}
use Rattle.tn_read_references.proofs.ReferenceStops.{firm_at_stops, trade_at_stops}
use Rattle.tn_read_shapes.specs.Reading.{◌>>=◌, each, fault, holds, wanted}
use Rattle.tn_read_shapes.specs.Shapes.{few_at, list_at, text_at}
use Rattle.tn_read_shapes.proofs.LeadLemmas.{Leads, leads_after, leads_as, leads_bind, leads_both, leads_count, leads_each, leads_ok}
use Rattle.tn_read_shapes.proofs.ShapeLeads.{few_lead}
use Rattle.tn_read_shapes.proofs.ShapeStops.{few_stops, list_stops, text_stops}
use Rattle.tn_read_shapes.proofs.StopLemmas.{IsPlain, IsPlainPlace, StopsPlainly, plain_fault, plain_holds, plain_wanted, stops_after, stops_bind, stops_each_few, stops_err, stops_ok}
use Rattle.tn_read_unit_parts.specs.Edited.{AreUnitEdits, IsKnownUnitEdit, admit_none, admit_whole, edit_at, edit_of, edit_parts_at, most_edited_trades, one_edit, parts_in, unit_edits_of}
use Rattle.tn_read_unit_parts.specs.Entries.{units_within}
use Rattle.tn_read_unit_parts.proofs.EntryLemmas.{units_lead, units_stop}
use Rattle.tn_read_units.specs.Trades.{UnitTrades}

-- ---- lists that are neither of two nor of three

pub parts_in-shorter : (vs : List Value) → length vs < 2 → parts_in (items_view vs) ≡ None
parts_in-shorter [] h = refl
parts_in-shorter (v ∷ []) h = refl
parts_in-shorter (v ∷ w ∷ vs) h = absurd (omega (arith, h))

pub parts_in-longer : (vs : List Value) → 4 ≤ length vs → parts_in (items_view vs) ≡ None
parts_in-longer [] h = absurd (omega (arith, h))
parts_in-longer (v ∷ []) h = absurd (omega (arith, h))
parts_in-longer (v ∷ w ∷ []) h = absurd (omega (arith, h))
parts_in-longer (v ∷ w ∷ u ∷ []) h = absurd (omega (arith, h))
parts_in-longer (v ∷ w ∷ u ∷ t ∷ vs) h = refl

module _ (head : UnitTrades) (named_as : length head.names.trades ≡ length head.trades) where
  -- ---- what they are

  abbrev IsKnown : UnitEdit → Type 0
  IsKnown edit = IsKnownUnitEdit (length head.names.firms) head.trades edit

  abbrev IsTrade : ℕ → Type 0
  IsTrade t = t < length head.trades

  trade_known : (place : List PlaceStep) (value : Data) → Leads IsTrade (trade_named head.names.trades place value)
  trade_known place value =
      subst (λ (n : ℕ). Leads (λ t. t < n) (trade_named head.names.trades place value)) named_as
      (trade_leads head.names.trades place value)

  all_lead : (place : List PlaceStep) (value : Data)
      → Leads (λ t. IfSome t IsTrade) (trade_or_all head.names.trades place value)
  unfolding trade_or_all
  all_lead place value =
      leads_after (λ t. IfSome t IsTrade) (text_at place (Some value)) _ (λ text. by_test (bytes_eq text all_trades))
    where
      by_test : (stands_for_all : Bool) → Leads (λ t. IfSome t IsTrade)
          (cond stands_for_all (Ok None) (trade_named head.names.trades place value >>= (λ t. Ok (Some t))))
      by_test true = leads_ok (λ t. IfSome t IsTrade) None tt
      by_test false =
          leads_bind IsTrade (λ t. IfSome t IsTrade) (trade_named head.names.trades place value) _
          (trade_known place value) (λ t known. leads_ok (λ t. IfSome t IsTrade) (Some t) known)

  whole_known : (t : Option ℕ) → IfSome t IsTrade → IsKnown (admit_whole head.trades t)
  whole_known None known = tt
  whole_known (Some t) known = (known, omega arith)

  none_known : (t : Option ℕ) → IfSome t IsTrade → IsKnown (admit_none t)
  none_known None known = tt
  none_known (Some t) known = (known, omega arith)

  change_leads : (change : Change) (k : ℕ) (reference : Data) (units : Option Data)
      → Leads IsKnown (edit_of head change k reference units)
  unfolding edit_of
  change_leads AdmitIs k reference (Some units) =
      let place = edit_place k ++ Index 1 ∷ [] in
      let at = edit_place k ++ Index 2 ∷ [] in
      leads_bind IsTrade IsKnown (trade_named head.names.trades place reference) _ (trade_known place reference)
      (λ t known.
      leads_bind (λ z. unsigned_abs z ≤ (trade_at head.trades t).units) IsKnown
      (units_within (trade_at head.trades t).units at units) _ (units_lead (trade_at head.trades t).units at units)
      (λ z within.
      leads_ok IsKnown (Admit t (unsigned_abs z)) (known, within)))
  change_leads AdmitIs k reference None =
      let place = edit_place k ++ Index 1 ∷ [] in
      leads_bind (λ t. IfSome t IsTrade) IsKnown (trade_or_all head.names.trades place reference) _
      (all_lead place reference) (λ t known. leads_ok IsKnown (admit_whole head.trades t) (whole_known t known))
  change_leads BarIs k reference None =
      let place = edit_place k ++ Index 1 ∷ [] in
      leads_bind (λ t. IfSome t IsTrade) IsKnown (trade_or_all head.names.trades place reference) _
      (all_lead place reference) (λ t known. leads_ok IsKnown (admit_none t) (none_known t known))
  change_leads LeaveIs k reference None =
      let place = edit_place k ++ Index 1 ∷ [] in
      leads_bind (λ f. f < length head.names.firms) IsKnown (firm_at head.names.firms place (Some reference)) _
      (firm_at_leads head.names.firms place (Some reference)) (λ f known. leads_ok IsKnown (Leave f) known)
  change_leads JoinIs k reference None =
      let place = edit_place k ++ Index 1 ∷ [] in
      leads_bind (λ f. f < length head.names.firms) IsKnown (firm_at head.names.firms place (Some reference)) _
      (firm_at_leads head.names.firms place (Some reference)) (λ f known. leads_ok IsKnown (Join f) known)
  change_leads BarIs k reference (Some units) = record { at = λ edit e. absurd (cc) }
  change_leads LeaveIs k reference (Some units) = record { at = λ edit e. absurd (cc) }
  change_leads JoinIs k reference (Some units) = record { at = λ edit e. absurd (cc) }

  edit_leads : (k : ℕ) (entry : Data) → Leads IsKnown (edit_at head k entry)
  unfolding edit_at
  edit_leads k entry =
      leads_after IsKnown (edit_parts_at (edit_place k) entry) _ (λ parts.
      leads_after IsKnown (text_at (edit_place k ++ Index 0 ∷ []) (Some parts.0)) _ (λ text.
      leads_after IsKnown (wanted Shape (edit_place k ++ Index 0 ∷ []) (change_named text)) _ (λ change.
      change_leads change k parts.1 parts.2)))

  one_edit_leads : (edits : List UnitEdit) (entry : Data) → All IsKnown edits
      → Leads (All IsKnown) (one_edit head edits entry)
  unfolding one_edit
  one_edit_leads edits entry known =
      leads_bind IsKnown (All IsKnown) (edit_at head (length edits) entry) _ (edit_leads (length edits) entry)
      (λ edit is.
      leads_ok (All IsKnown) (edits ++ edit ∷ []) (All-push IsKnown edits edit known is))

  one_edit_counts : (edits : List UnitEdit) (entry : Data)
      → Leads (λ next. length next ≡ length edits + 1) (one_edit head edits entry)
  unfolding one_edit
  one_edit_counts edits entry =
      leads_after (λ next. length next ≡ length edits + 1) (edit_at head (length edits) entry) _ (λ edit.
      leads_ok (λ next. length next ≡ length edits + 1) (edits ++ edit ∷ []) (length-append edits (edit ∷ [])))

  pub unit_edits_lead : (top : Data)
      → Leads (AreUnitEdits (length head.names.firms) head.trades) (unit_edits_of head top)
  unfolding unit_edits_of
  unit_edits_lead top =
      let are_edits = AreUnitEdits (length head.names.firms) head.trades in
      leads_bind (λ items. items_len items ≤ most_edits) are_edits
      (few_at most_edits (Key Edits ∷ []) (get (codes "edits") top)) _
      (few_lead most_edits (Key Edits ∷ []) (get (codes "edits") top)) (λ entries few.
      leads_after are_edits
      (holds Limit (Key Edits ∷ []) (nat_le (items_len entries * length head.trades) most_edited_trades)) _ (λ within.
      leads_as (λ edits. All IsKnown edits × (length edits ≡ 0 + items_len entries)) are_edits
      (each (one_edit head) [] entries) (λ edits are. record { few = omega (arith, few, are.1); known = are.0 })
      (leads_both (All IsKnown) (λ edits. length edits ≡ 0 + items_len entries) (each (one_edit head) [] entries)
      (leads_each (All IsKnown) (one_edit head) one_edit_leads [] entries (All-nil IsKnown))
      (leads_count length (one_edit head) one_edit_counts [] entries))))

  -- ---- where reading stops

  part_plain : (k i : ℕ) → k ≤ 16384 → i ≤ 16384 → IsPlainPlace (edit_place k ++ Index i ∷ [])
  part_plain k i few early = (tt, (few, (early, tt)))

  all_stop : (place : List PlaceStep) → IsPlainPlace place → (value : Data)
      → StopsPlainly (trade_or_all head.names.trades place value)
  unfolding trade_or_all
  all_stop place plain value =
      stops_bind IsPlain (text_at place (Some value)) _ (text_stops place plain (Some value))
      (λ text. by_test (bytes_eq text all_trades))
    where
      by_test : (stands_for_all : Bool) → StopsPlainly
          (cond stands_for_all (Ok None) (trade_named head.names.trades place value >>= (λ t. Ok (Some t))))
      by_test true = stops_ok IsPlain None
      by_test false =
          stops_bind IsPlain (trade_named head.names.trades place value) _
          (trade_at_stops place plain head.names.trades value) (λ t. stops_ok IsPlain (Some t))

  no_units : (k : ℕ) → k ≤ 16384 → StopsPlainly {A = UnitEdit} (Err (fault Shape (edit_place k)))
  no_units k few = stops_err IsPlain (fault Shape (edit_place k)) (plain_fault Shape (edit_place k) refl (tt, (few, tt)))

  change_stops : (change : Change) (k : ℕ) → k ≤ 16384 → (reference : Data) (units : Option Data)
      → StopsPlainly (edit_of head change k reference units)
  unfolding edit_of
  change_stops AdmitIs k few reference (Some units) =
      let place = edit_place k ++ Index 1 ∷ [] in
      let at = edit_place k ++ Index 2 ∷ [] in
      stops_bind IsPlain (trade_named head.names.trades place reference) _
      (trade_at_stops place (part_plain k 1 few (omega arith)) head.names.trades reference) (λ t.
      stops_bind IsPlain (units_within (trade_at head.trades t).units at units) _
      (units_stop (trade_at head.trades t).units at (part_plain k 2 few (omega arith)) units) (λ z.
      stops_ok IsPlain (Admit t (unsigned_abs z))))
  change_stops AdmitIs k few reference None =
      let place = edit_place k ++ Index 1 ∷ [] in
      stops_bind IsPlain (trade_or_all head.names.trades place reference) _
      (all_stop place (part_plain k 1 few (omega arith)) reference) (λ t. stops_ok IsPlain (admit_whole head.trades t))
  change_stops BarIs k few reference None =
      let place = edit_place k ++ Index 1 ∷ [] in
      stops_bind IsPlain (trade_or_all head.names.trades place reference) _
      (all_stop place (part_plain k 1 few (omega arith)) reference) (λ t. stops_ok IsPlain (admit_none t))
  change_stops LeaveIs k few reference None =
      let place = edit_place k ++ Index 1 ∷ [] in
      stops_bind IsPlain (firm_at head.names.firms place (Some reference)) _
      (firm_at_stops place (part_plain k 1 few (omega arith)) head.names.firms (Some reference))
      (λ f. stops_ok IsPlain (Leave f))
  change_stops JoinIs k few reference None =
      let place = edit_place k ++ Index 1 ∷ [] in
      stops_bind IsPlain (firm_at head.names.firms place (Some reference)) _
      (firm_at_stops place (part_plain k 1 few (omega arith)) head.names.firms (Some reference))
      (λ f. stops_ok IsPlain (Join f))
  change_stops BarIs k few reference (Some units) = no_units k few
  change_stops LeaveIs k few reference (Some units) = no_units k few
  change_stops JoinIs k few reference (Some units) = no_units k few

  parts_stop : (place : List PlaceStep) → IsPlainPlace place → (value : Data) → StopsPlainly (edit_parts_at place value)
  unfolding edit_parts_at
  parts_stop place plain value =
      stops_bind IsPlain (list_at place (Some value)) _ (list_stops place plain (Some value))
      (λ items. plain_wanted Shape place (parts_in items) refl plain)

  edit_stops : (k : ℕ) (entry : Data) → k ≤ 16384 → StopsPlainly (edit_at head k entry)
  unfolding edit_at
  edit_stops k entry few =
      let word = edit_place k ++ Index 0 ∷ [] in
      stops_bind IsPlain (edit_parts_at (edit_place k) entry) _ (parts_stop (edit_place k) (tt, (few, tt)) entry) (λ parts.
      stops_bind IsPlain (text_at word (Some parts.0)) _
      (text_stops word (part_plain k 0 few (omega arith)) (Some parts.0)) (λ text.
      stops_bind IsPlain (wanted Shape word (change_named text)) _
      (plain_wanted Shape word (change_named text) refl (part_plain k 0 few (omega arith))) (λ change.
      change_stops change k few parts.1 parts.2)))

  one_edit_stops : (edits : List UnitEdit) (entry : Data) → length edits + 1 ≤ most_edits
      → StopsPlainly (one_edit head edits entry)
  unfolding one_edit
  one_edit_stops edits entry room =
      stops_bind IsPlain (edit_at head (length edits) entry) _ (edit_stops (length edits) entry (omega (arith, room)))
      (λ edit.
      stops_ok IsPlain (edits ++ edit ∷ []))

  pub unit_edits_stop : (top : Data) → StopsPlainly (unit_edits_of head top)
  unfolding unit_edits_of
  unit_edits_stop top =
      stops_after IsPlain (λ items. items_len items ≤ most_edits)
      (few_at most_edits (Key Edits ∷ []) (get (codes "edits") top)) _
      (few_lead most_edits (Key Edits ∷ []) (get (codes "edits") top))
      (few_stops (Key Edits ∷ []) (tt, tt) most_edits (get (codes "edits") top)) (λ entries few.
      stops_bind IsPlain
      (holds Limit (Key Edits ∷ []) (nat_le (items_len entries * length head.trades) most_edited_trades)) _
      (plain_holds Limit (Key Edits ∷ []) (nat_le (items_len entries * length head.trades) most_edited_trades) refl
      (tt, tt)) (λ within.
      stops_each_few IsPlain (λ edits. Unit {0}) length most_edits (one_edit head)
      (λ edits d start. leads_as (λ next. length next ≡ length edits + 1) _ _ (λ next more. (tt, more))
      (one_edit_counts edits d)) (λ edits d start room. one_edit_stops edits d room) [] entries tt
      (omega (arith, few))))
