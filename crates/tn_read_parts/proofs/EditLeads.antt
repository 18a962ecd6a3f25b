-- What the edits are that reading gives.
use Rattle.std.proofs.Common.{◌≡◌, ℕ, ◌+◌, ◌<◌, ◌≤◌, Bool, true, false, cond, List, [], ◌∷◌, ◌++◌, length, Option, Some, None, Ok, arith}
use Rattle.std.specs.Prelude.{codes, bytes_eq, All}
use Rattle.std.proofs.lemmas.List.{length-append}
use Rattle.std.proofs.lemmas.List.Elements.{All-nil, All-push}
use Rattle.serde_json.specs.Data.{Data}
use Rattle.serde_json.specs.Events.{items_len}
use Rattle.serde_json.specs.Find.{get}
use Rattle.tn_said.specs.declared.fault.FaultKind.TheVariants.{Shape}
use Rattle.tn_model.specs.Limits.{AreLimits}
use Rattle.tn_said.specs.declared.session.Edit.{Edit}
use Rattle.tn_said.specs.declared.session.Edit.TheVariants.{Join as JoinOf, Leave as LeaveOf}
use Rattle.tn_said.specs.declared.place.PlaceStep.{PlaceStep}
use Rattle.tn_said.specs.declared.place.PlaceStep.TheVariants.{Index, Key}
use Rattle.tn_said.specs.declared.place.Word.TheVariants.{Edits}
use Rattle.tn_names.specs.Names.{NameLists}
use Rattle.tn_read_shapes.specs.Reading.{◌>>=◌, each, wanted}
use Rattle.tn_read_shapes.specs.Shapes.{few_at, text_at, two_at}
use Rattle.tn_read_shapes.proofs.LeadLemmas.{Leads, leads_ok, leads_bind, leads_after, leads_as, leads_both, leads_count, leads_each}
use Rattle.tn_read_shapes.proofs.ShapeLeads.{few_lead}
use Rattle.tn_read_references.specs.Ordered.{Listed}
use Rattle.tn_read_references.specs.References.{firm_at, trade_at}
use Rattle.tn_read_references.proofs.ReferenceLeads.{firm_at_leads, trade_leads}
use Rattle.tn_read_parts.specs.declared.edits.Change.{Change}
use Rattle.tn_read_parts.specs.declared.edits.Change.TheVariants.{Admit, Bar, Join, Leave}
use Rattle.tn_read_parts.specs.Edited.{admit_of, all_trades, bar_of, change_named, edit_at, edit_of, edit_place, edits_of, one_edit, trade_or_all}
use Rattle.tn_said.specs.Edits.{AreEdits, IsKnownEdit}

module _ (names : NameLists) where
  abbrev IsKnown : Edit → Type 0
  IsKnown edit = IsKnownEdit (length names.firms) (length names.trades) edit

  -- no trade, or one that is known
  abbrev AreKnown : Option ℕ → Type 0
  AreKnown None = Unit {0}
  AreKnown (Some t) = t < length names.trades

  admit_known : (t : Option ℕ) → AreKnown t → IsKnown (admit_of t)
  admit_known None known = tt
  admit_known (Some t) known = known

  bar_known : (t : Option ℕ) → AreKnown t → IsKnown (bar_of t)
  bar_known None known = tt
  bar_known (Some t) known = known

  all_lead : (place : List PlaceStep) (value : Data) → Leads AreKnown (trade_or_all names.trades place value)
  unfolding trade_or_all
  all_lead place value =
      leads_after AreKnown (text_at place (Some value)) _ (λ text. by_test (bytes_eq text all_trades))
    where
      by_test : (stands_for_all : Bool)
          → Leads AreKnown (cond stands_for_all (Ok None) (trade_at names.trades place value >>= (λ t. Ok (Some t))))
      by_test true = leads_ok AreKnown None tt
      by_test false =
          leads_bind (λ t. t < length names.trades) AreKnown (trade_at names.trades place value) _
          (trade_leads names.trades place value) (λ t known. leads_ok AreKnown (Some t) known)

  change_leads : (change : Change) (place : List PlaceStep) (value : Data)
      → Leads IsKnown (edit_of names change place value)
  unfolding edit_of
  change_leads Admit place value =
      leads_bind AreKnown IsKnown (trade_or_all names.trades place value) _ (all_lead place value)
      (λ t known. leads_ok IsKnown (admit_of t) (admit_known t known))
  change_leads Bar place value =
      leads_bind AreKnown IsKnown (trade_or_all names.trades place value) _ (all_lead place value)
      (λ t known. leads_ok IsKnown (bar_of t) (bar_known t known))
  change_leads Leave place value =
      leads_bind (λ f. f < length names.firms) IsKnown (firm_at names.firms place (Some value)) _
      (firm_at_leads names.firms place (Some value)) (λ f known. leads_ok IsKnown (LeaveOf f) known)
  change_leads Join place value =
      leads_bind (λ f. f < length names.firms) IsKnown (firm_at names.firms place (Some value)) _
      (firm_at_leads names.firms place (Some value)) (λ f known. leads_ok IsKnown (JoinOf f) known)

  edit_leads : (k : ℕ) (entry : Data) → Leads IsKnown (edit_at names k entry)
  unfolding edit_at
  edit_leads k entry =
      leads_after IsKnown (two_at (edit_place k) entry) _ (λ two.
      leads_after IsKnown (text_at (edit_place k ++ Index 0 ∷ []) (Some two.0)) _ (λ text.
      leads_after IsKnown (wanted Shape (edit_place k ++ Index 0 ∷ []) (change_named text)) _ (λ change.
      change_leads change (edit_place k ++ Index 1 ∷ []) two.1)))

  one_edit_leads : (edits : List Edit) (entry : Data) → All IsKnown edits
      → Leads (All IsKnown) (one_edit names edits entry)
  unfolding one_edit
  one_edit_leads edits entry known =
      leads_bind IsKnown (All IsKnown) (edit_at names (length edits) entry) _ (edit_leads (length edits) entry)
      (λ edit is.
      leads_ok (All IsKnown) (edits ++ edit ∷ []) (All-push IsKnown edits edit known is))

  pub one_edit_counts : (edits : List Edit) (entry : Data)
      → Leads (λ next. length next ≡ length edits + 1) (one_edit names edits entry)
  unfolding one_edit
  one_edit_counts edits entry =
      leads_after (λ next. length next ≡ length edits + 1) (edit_at names (length edits) entry) _ (λ edit.
      leads_ok (λ next. length next ≡ length edits + 1) (edits ++ edit ∷ []) (length-append edits (edit ∷ [])))

pub edits_lead : (listed : Listed) → AreLimits listed.limits → (top : Data)
    → Leads (AreEdits (length listed.names.firms) (length listed.names.trades)) (edits_of listed top)
unfolding edits_of
edits_lead listed limits top =
    let names = listed.names in
    let limit = listed.limits.edits in
    leads_bind (λ items. items_len items ≤ limit) (AreEdits (length names.firms) (length names.trades))
    (few_at limit (Key Edits ∷ []) (get (codes "edits") top)) _
    (few_lead limit (Key Edits ∷ []) (get (codes "edits") top)) (λ entries few.
    leads_as (λ edits. All (IsKnown names) edits × (length edits ≡ 0 + items_len entries))
    (AreEdits (length names.firms) (length names.trades)) (each (one_edit names) [] entries)
    (λ edits are. record { few = omega (arith, few, are.1, limits.edits); known = are.0 })
    (leads_both (All (IsKnown names)) (λ edits. length edits ≡ 0 + items_len entries) (each (one_edit names) [] entries)
    (leads_each (All (IsKnown names)) (one_edit names) (one_edit_leads names) [] entries (All-nil (IsKnown names)))
    (leads_count length (one_edit names) (one_edit_counts names) [] entries)))

-- and there are no more of them than the document's limit
pub edits_are_few : (listed : Listed) (top : Data)
    → Leads (λ edits. length edits ≤ listed.limits.edits) (edits_of listed top)
unfolding edits_of
edits_are_few listed top =
    let names = listed.names in
    let limit = listed.limits.edits in
    leads_bind (λ items. items_len items ≤ limit) (λ edits. length edits ≤ limit)
    (few_at limit (Key Edits ∷ []) (get (codes "edits") top)) _
    (few_lead limit (Key Edits ∷ []) (get (codes "edits") top)) (λ entries few.
    leads_as (λ edits. length edits ≡ 0 + items_len entries) (λ edits. length edits ≤ limit)
    (each (one_edit names) [] entries) (λ edits count. omega (arith, few, count))
    (leads_count length (one_edit names) (one_edit_counts names) [] entries))
