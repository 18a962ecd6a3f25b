-- What references name.
use Rattle.std.proofs.Common.{◌≡◌, ℕ, ◌^◌, ◌<◌, List, length, slice_get, Option, Some, None}
use Rattle.std.specs.Prelude.{option_and_then, not}
use Rattle.std.proofs.lemmas.Nat.{pow_pos}
use Rattle.std.proofs.lemmas.Option.{slice_get_within, option_and_then_some}
use Rattle.serde_json.specs.Data.{Data}
use Rattle.tn_base.specs.Sets.{has, toggle}
use Rattle.tn_base.proofs.SetLemmas.{toggle_within}
use Rattle.tn_base.specs.declared.side.Side.{Side}
use Rattle.tn_said.specs.declared.fault.FaultKind.TheVariants.{SameTrade, UnknownFirm}
use Rattle.tn_said.specs.declared.place.PlaceStep.{PlaceStep}
use Rattle.tn_names.specs.Names.{number_of}
use Rattle.tn_names.proofs.NameLemmas.{name_at_number}
use Rattle.tn_read_shapes.specs.Reading.{holds}
use Rattle.tn_read_shapes.specs.Shapes.{list_at, text_at}
use Rattle.tn_read_references.specs.Ordered.{Listed, sides_of, AreTrades}
use Rattle.tn_read_references.specs.References.{position_on, firm_at, trade_at, new_trade, own_position, new_own, own_reference, bundle_at}
use Rattle.tn_read_references.proofs.EndsLemmas.{position_on-within}
use Rattle.tn_read_shapes.proofs.LeadLemmas.{Leads, leads_ok, leads_bind, leads_after, leads_each, leads_wanted, leads_as}

pub firm_at_leads : (firms : List (List ℕ)) (place : List PlaceStep) (value : Option Data)
    → Leads (λ f. f < length firms) (firm_at firms place value)
unfolding firm_at
firm_at_leads firms place value =
    leads_after _ (text_at place value) _ (λ name. leads_as (λ f. number_of firms name ≡ Some f) _ _
    (λ f e. slice_get_within firms f name (name_at_number firms name f e))
    (leads_wanted UnknownFirm place (number_of firms name)))

pub trade_leads : (trades : List (List ℕ)) (place : List PlaceStep) (value : Data)
    → Leads (λ t. t < length trades) (trade_at trades place value)
unfolding trade_at
trade_leads trades place value =
    leads_after _ _ _ (λ name. leads_as (λ t. number_of trades name ≡ Some t) _ _
    (λ t e. slice_get_within trades t name (name_at_number trades name t e)) (leads_wanted _ _ _))

pub new_trade_leads : (trades : List (List ℕ)) (place : List PlaceStep) (named : ℕ) (value : Data)
    → Leads (λ t. t < length trades) (new_trade trades place named value)
unfolding new_trade
new_trade_leads trades place named value =
    leads_bind (λ t. t < length trades) (λ t. t < length trades) (trade_at trades place value) _
    (trade_leads trades place value) (λ t known.
    leads_after (λ t. t < length trades) (holds SameTrade place (not (has named t))) _
    (λ u. leads_ok (λ t. t < length trades) t known))

module _ (listed : Listed) (trades : AreTrades listed) (f : ℕ) where
  pub position_leads : (side : Option Side) (place : List PlaceStep) (value : Data)
      → Leads (λ k. k < length (sides_of listed.ends f)) (own_position listed f side place value)
  unfolding own_position
  position_leads side place value =
      leads_after _ _ _ (λ t. leads_as (λ k. option_and_then (position_on side f) (slice_get listed.ends t) ≡ Some k) _
      _ (within t) (leads_wanted _ _ _))
    where
      within : (t k : ℕ) → option_and_then (position_on side f) (slice_get listed.ends t) ≡ Some k
          → k < length (sides_of listed.ends f)
      within t k e =
          option_and_then_some (position_on side f) (slice_get listed.ends t) k e
          (λ trade is at. position_on-within (length listed.names.firms) f listed.ends t trade trades.order is side k
          at)

  pub new_own_leads : (side : Option Side) (place : List PlaceStep) (bundle : ℕ) (value : Data)
      → Leads (λ k. k < length (sides_of listed.ends f)) (new_own listed f side place bundle value)
  unfolding new_own
  new_own_leads side place bundle value =
      leads_bind (λ k. k < length (sides_of listed.ends f)) (λ k. k < length (sides_of listed.ends f))
      (own_position listed f side place value) _ (position_leads side place value) (λ k below.
      leads_after (λ k. k < length (sides_of listed.ends f)) (holds SameTrade place (not (has bundle k))) _
      (λ u. leads_ok (λ k. k < length (sides_of listed.ends f)) k below))

  pub reference_leads : (place : List PlaceStep) (bundle : ℕ) (value : Data)
      → bundle < 2 ^ length (sides_of listed.ends f)
      → Leads (λ b. b < 2 ^ length (sides_of listed.ends f)) (own_reference listed f place bundle value)
  unfolding own_reference
  reference_leads place bundle value own =
      leads_bind (λ k. k < length (sides_of listed.ends f)) _ _ _ (new_own_leads None _ bundle value) (λ k below.
      leads_ok (λ b. b < 2 ^ length (sides_of listed.ends f)) (toggle bundle k)
      (toggle_within bundle k (length (sides_of listed.ends f)) own below))

  pub bundle_leads : (place : List PlaceStep) (value : Option Data)
      → Leads (λ b. b < 2 ^ length (sides_of listed.ends f)) (bundle_at listed f place value)
  unfolding bundle_at
  bundle_leads place value =
      leads_after (λ b. b < 2 ^ length (sides_of listed.ends f)) (list_at place value) _ (λ references.
      leads_each (λ b. b < 2 ^ length (sides_of listed.ends f)) (own_reference listed f place) (reference_leads place) 0
      references (pow_pos (length (sides_of listed.ends f))))
