-- What the arrangement is that reading gives.
use Rattle.std.proofs.Common.{ℕ, List, [], ◌∷◌, length, Some}
use Rattle.std.specs.Prelude.{codes}
use Rattle.serde_json.specs.Data.{Data}
use Rattle.serde_json.specs.Find.{get}
use Rattle.tn_said.specs.declared.fault.FaultKind.TheVariants.{Shape}
use Rattle.tn_model.specs.Limits.{AreLimits, most_price}
use Rattle.tn_said.specs.declared.place.PlaceStep.TheVariants.{Key}
use Rattle.tn_said.specs.declared.place.Word.TheVariants.{Arrangement}
use Rattle.tn_read_shapes.specs.declared.members.ObjectKind.TheVariants.{Arrangement as ArrangementObject}
use Rattle.tn_read_shapes.specs.Reading.{each, wanted}
use Rattle.tn_read_shapes.specs.Shapes.{list_at, object_of}
use Rattle.tn_read_shapes.proofs.LeadLemmas.{Leads, leads_ok, leads_bind, leads_after}
use Rattle.tn_read_references.proofs.EntryLeads.{AreNumbers, all_within}
use Rattle.tn_read_references.specs.Ordered.{Listed}
use Rattle.tn_read_parts.specs.Lists.{one_on, prices_of}
use Rattle.tn_read_parts.specs.Arranged.{on_place, prices_place, on_of, trades_on_of, arrangement_of, IsArrangement}
use Rattle.tn_read_parts.proofs.ListLeads.{IsSetOf, set_leads, prices_lead}

module _ (trades : List (List ℕ)) where
  abbrev pub HasSet : Data × ℕ → Type 0
  HasSet part = IsSetOf trades on_place part.1

  pub on_leads : (top : Data) → Leads HasSet (on_of trades top)
  unfolding on_of
  on_leads top =
      leads_after HasSet (wanted Shape (Key Arrangement ∷ []) (get (codes "arrangement") top)) _ (λ part.
      leads_after HasSet (object_of ArrangementObject (Key Arrangement ∷ []) (Some part)) _ (λ object.
      leads_after HasSet (list_at on_place (get (codes "on") part)) _ (λ references.
      leads_bind (IsSetOf trades on_place) HasSet (each (one_on trades on_place) 0 references) _
      (set_leads trades on_place references) (λ on below.
      leads_ok HasSet (part, on) below))))

  pub trades_on_leads : (top : Data) → Leads (IsSetOf trades on_place) (trades_on_of trades top)
  unfolding trades_on_of
  trades_on_leads top =
      leads_bind HasSet (IsSetOf trades on_place) (on_of trades top) _ (on_leads top) (λ part below.
      leads_ok (IsSetOf trades on_place) part.1 below)

pub arrangement_leads : (listed : Listed) → AreLimits listed.limits → (top : Data)
    → Leads (IsArrangement (length listed.names.trades)) (arrangement_of listed top)
unfolding arrangement_of
arrangement_leads listed limits top =
    let trades = listed.names.trades in
    let limit = listed.limits.price in
    leads_bind (HasSet trades) (IsArrangement (length trades)) (on_of trades top) _ (on_leads trades top) (λ part below.
    leads_after (IsArrangement (length trades)) (list_at prices_place (get (codes "prices") part.0)) _ (λ entries.
    leads_bind (AreNumbers (length trades) limit) (IsArrangement (length trades))
    (prices_of trades prices_place limit entries) _ (prices_lead trades prices_place limit entries) (λ prices are.
    leads_ok (IsArrangement (length trades)) (record { on = part.1; prices = prices }) (record {
      on = below;
      count =
          are.count;
      small = all_within limit most_price prices limits.price are.small;
    }))))
