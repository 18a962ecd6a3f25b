-- An outcome that is read has the denominator that it says, and exactly the contracts that its entries say.
use Rattle.std.proofs.Common.{◌≡◌, ℕ, ◌&&◌, pos, List, Option, Some}
use Rattle.std.specs.Prelude.{codes, int_le, option_and_then}
use Rattle.serde_json.specs.Data.{Data}
use Rattle.serde_json.specs.Find.{get, as_array, as_i64, as_number}
use Rattle.tn_said.specs.declared.fault.FaultKind.TheVariants.{BadOver, Shape}
use Rattle.tn_said.specs.declared.place.PlaceStep.{PlaceStep}
use Rattle.tn_read_shapes.specs.declared.members.ObjectKind.TheVariants.{Outcome as OutcomeObject}
use Rattle.tn_read_shapes.specs.Reading.{holds, wanted}
use Rattle.tn_read_shapes.specs.Shapes.{list_at, object_of, whole_at}
use Rattle.tn_read_shapes.proofs.LeadLemmas.{Leads, leads_after, leads_bind, leads_ok, leads_wanted}
use Rattle.tn_read_references.specs.Ordered.{Listed}
use Rattle.tn_read_parts.specs.Laws.{SaysOutcome, OutcomesHaveTheirEntries}
use Rattle.tn_read_parts.specs.Lists.{contracts_at}
use Rattle.tn_read_parts.specs.Signed.{contracts_place, outcome_of, outcome_place, over_at, over_place}
use Rattle.tn_read_parts.proofs.EntryLemmas.{AreSaid, contracts_said}

over_says : (limit : ℕ) (place : List PlaceStep) (value : Option Data)
    → Leads (λ over. option_and_then as_i64 (option_and_then as_number value) ≡ Some over) (over_at limit place value)
unfolding over_at
over_says limit place value =
    leads_bind (λ over. option_and_then as_i64 (option_and_then as_number value) ≡ Some over)
    (λ over. option_and_then as_i64 (option_and_then as_number value) ≡ Some over) (whole_at place value) _
    (leads_wanted Shape place (option_and_then as_i64 (option_and_then as_number value))) (λ over is.
    leads_after (λ over. option_and_then as_i64 (option_and_then as_number value) ≡ Some over)
    (holds BadOver place (int_le (pos 1) over && int_le over (pos limit))) _ (λ within.
    leads_ok (λ over. option_and_then as_i64 (option_and_then as_number value) ≡ Some over) over is))

outcome_says : (listed : Listed) (top : Data) → Leads (SaysOutcome listed.names.trades top) (outcome_of listed top)
unfolding outcome_of
outcome_says listed top =
    let trades = listed.names.trades in
    let most = listed.limits.over in
    let limit = listed.limits.numerator in
    leads_bind (λ part. get (codes "outcome") top ≡ Some part) (SaysOutcome trades top)
    (wanted Shape outcome_place (get (codes "outcome") top)) _
    (leads_wanted Shape outcome_place (get (codes "outcome") top)) (λ part part_is.
    leads_after (SaysOutcome trades top) (object_of OutcomeObject outcome_place (Some part)) _ (λ object.
    leads_bind (λ over. option_and_then as_i64 (option_and_then as_number (get (codes "over") part)) ≡ Some over)
    (SaysOutcome trades top) (over_at most over_place (get (codes "over") part)) _
    (over_says most over_place (get (codes "over") part)) (λ over over_is.
    leads_bind (λ entries. option_and_then as_array (get (codes "contracts") part) ≡ Some entries)
    (SaysOutcome trades top) (list_at contracts_place (get (codes "contracts") part)) _
    (leads_wanted Shape contracts_place (option_and_then as_array (get (codes "contracts") part)))
    (λ entries entries_are.
    leads_bind (AreSaid trades entries) (SaysOutcome trades top) (contracts_at trades contracts_place limit entries) _
    (contracts_said trades contracts_place limit entries) (λ contracts are.
    leads_ok (SaysOutcome trades top) (record { over = over; contracts = contracts }) (record {
      part = part;
      part_is = part_is;
      over = over_is;
      entries = entries;
      entries_are = entries_are;
      contracts = are;
    }))))))

pub outcomes_have_their_entries : OutcomesHaveTheirEntries
outcomes_have_their_entries listed top outcome e = (outcome_says listed top).at outcome e
