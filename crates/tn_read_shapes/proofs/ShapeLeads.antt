-- What the numbers and the short lists are that reading gives.
use Rattle.std.proofs.Common.{◌≡◌, ℕ, List, Option, ◌≤◌, true}
use Rattle.serde_json.specs.Data.{Data}
use Rattle.tn_base.specs.Arcs.{IsAtMost}
use Rattle.tn_said.specs.declared.place.PlaceStep.{PlaceStep}
use Rattle.tn_read_shapes.specs.Reading.{holds}
use Rattle.tn_read_shapes.specs.Shapes.{list_at, number_in, few_at}
use Rattle.tn_read_shapes.proofs.LeadLemmas.{Leads, leads_ok, leads_bind, leads_after, leads_holds, small_from_test, le_from_test}
use Rattle.std.specs.Prelude.{nat_le}
use Rattle.serde_json.specs.Events.{items_len}
use Rattle.tn_said.specs.declared.fault.FaultKind.TheVariants.{Limit}

pub number_leads : (limit : ℕ) (place : List PlaceStep) (value : Option Data)
    → Leads (λ z. IsAtMost z limit) (number_in limit place value)
unfolding number_in
number_leads limit place value =
    leads_after _ _ _ (λ z. leads_bind _ _ _ _ (leads_holds _ _ _)
    (λ u t. leads_ok (λ z. IsAtMost z limit) z (small_from_test z limit t)))

pub few_lead : (limit : ℕ) (place : List PlaceStep) (value : Option Data)
    → Leads (λ items. items_len items ≤ limit) (few_at limit place value)
unfolding few_at
few_lead limit place value =
    leads_after _ (list_at place value) _ (λ items. leads_bind (λ _. nat_le (items_len items) limit ≡ true)
    (λ items. items_len items ≤ limit) (holds Limit place (nat_le (items_len items) limit)) _
    (leads_holds Limit place (nat_le (items_len items) limit))
    (λ u few. leads_ok (λ items. items_len items ≤ limit) items (le_from_test (items_len items) limit few)))
