-- Wherever the reading of a claim's members stops, its fault speaks of named trades.
use Rattle.std.proofs.Common.{◌≡◌, ℕ, ◌^◌, ◌+◌, ◌<◌, ◌≤◌, List, [], ◌∷◌, ◌++◌, length, Option, Some, None, Result, Ok, refl, arith}
use Rattle.std.specs.Prelude.{codes, nat_le}
use Rattle.std.proofs.lemmas.Nat.{pow_pos}
use Rattle.serde_json.specs.Data.{Data, null, boolean, number, string, array, object, Items}
use Rattle.serde_json.specs.Events.{items_len}
use Rattle.serde_json.specs.Find.{get}
use Rattle.tn_base.specs.Sets.{toggle}
use Rattle.tn_base.proofs.SetLemmas.{toggle_within}
use Rattle.tn_said.specs.declared.fault.FaultKind.TheVariants.{Limit, Shape}
use Rattle.tn_said.specs.declared.place.PlaceStep.{PlaceStep}
use Rattle.tn_said.specs.declared.place.PlaceStep.TheVariants.{Index}
use Rattle.tn_said.specs.declared.place.Word.TheVariants.{Contracts, Gain, Nodes, On, Prices}
use Rattle.tn_said.specs.declared.said.Fault.{Fault}
use Rattle.tn_read_shapes.specs.Reading.{◌>>=◌, each, holds, wanted}
use Rattle.tn_read_shapes.specs.Shapes.{few_at, list_at, number_at}
use Rattle.tn_read_shapes.proofs.LeadLemmas.{Leads, leads_as, leads_bind, leads_ok}
use Rattle.tn_read_shapes.proofs.ShapeLeads.{few_lead}
use Rattle.tn_read_shapes.proofs.ShapeStops.{few_stops, list_stops, number_stops}
use Rattle.tn_read_shapes.proofs.StopLemmas.{IsPlain, IsPlainPlace, Stops, StopsPlainly, plain_holds, plain_wanted, stops_after, stops_bind, stops_each, stops_each_few, stops_ok}
use Rattle.tn_read_references.specs.Ordered.{Listed}
use Rattle.tn_read_references.specs.References.{new_trade, own_position, trade_at}
use Rattle.tn_read_references.proofs.ReferenceStops.{entry_below, entry_stops, own_position_stops, trade_at_stops}
use Rattle.tn_read_references.proofs.ToldLemmas.{IsTold, told_from_plain}
use Rattle.tn_read_parts.specs.Lists.{price_of}
use Rattle.tn_read_parts.proofs.ListStops.{prices_stop, set_stops, trades_refer}
use Rattle.tn_model.specs.Limits.{AreLimits, least_nodes, most_nodes}
use Rattle.tn_read_claims.specs.Members.{Offered, claimed_contracts, claimed_nodes, claimed_on, claimed_prices, gain_or_null, member_place, no_offers, node_or_null, one_node, one_offer, own_or_null, unless_null}
use Rattle.tn_read_claims.proofs.MemberLeads.{one_node_counts}

module _ {A : Type 0} (read : Data → Result A Fault) (stops : (value : Data) → StopsPlainly (read value)) where
  there_stops : (value : Data) → StopsPlainly (read value >>= λ found. Ok (Some found))
  there_stops value = stops_bind IsPlain (read value) _ (stops value) (λ found. stops_ok IsPlain (Some found))

  pub unless_null_stops : (value : Data) → StopsPlainly (unless_null read value)
  unless_null_stops null = stops_ok IsPlain None
  unless_null_stops (boolean b) = there_stops (boolean b)
  unless_null_stops (number n) = there_stops (number n)
  unless_null_stops (string s) = there_stops (string s)
  unless_null_stops (array ds) = there_stops (array ds)
  unless_null_stops (object ms) = there_stops (object ms)

pub gain_stops : (listed : Listed) (value : Option Data) → StopsPlainly (gain_or_null listed value)
gain_stops listed value =
    stops_bind IsPlain (wanted Shape (member_place Gain) value) _
    (plain_wanted Shape (member_place Gain) value refl (tt, (tt, tt))) (λ gain.
    unless_null_stops (number_at listed.limits.number (member_place Gain))
    (λ d. number_stops (member_place Gain) (tt, (tt, tt)) listed.limits.number (Some d)) gain)

pub at_stops : (listed : Listed) (f : ℕ) (place : List PlaceStep) → IsPlainPlace place → (value : Option Data)
    → StopsPlainly (own_or_null listed f place value)
at_stops listed f place plain value =
    stops_bind IsPlain (wanted Shape place value) _ (plain_wanted Shape place value refl plain) (λ trade.
    unless_null_stops (own_position listed f None place) (own_position_stops place plain listed f None) trade)

module _ (trades : List (List ℕ)) where
  one_node_stops : (nodes : List (Option ℕ)) (value : Data) → length nodes + 1 ≤ most_nodes
      → StopsPlainly (one_node trades nodes value)
  unfolding one_node
  one_node_stops nodes value room =
      let place = member_place Nodes ++ Index (length nodes) ∷ [] in
      let few : length nodes ≤ 16384 = omega (arith, room) in
      stops_bind IsPlain (node_or_null trades place value) _ (unless_null_stops (trade_at trades place)
      (trade_at_stops place (tt, (tt, (few, tt))) trades) value) (λ node.
      stops_ok IsPlain (nodes ++ node ∷ []))

pub nodes_stop : (listed : Listed) → AreLimits listed.limits → (claim : Data)
    → StopsPlainly (claimed_nodes listed claim)
unfolding claimed_nodes
nodes_stop listed limits claim =
    let trades = listed.names.trades in
    let limit = listed.limits.nodes in
    stops_after IsPlain (λ values. items_len values ≤ limit)
    (few_at limit (member_place Nodes) (get (codes "nodes") claim)) _
    (few_lead limit (member_place Nodes) (get (codes "nodes") claim))
    (few_stops (member_place Nodes) (tt, (tt, tt)) limit (get (codes "nodes") claim)) (λ values few.
    stops_bind IsPlain (holds Limit (member_place Nodes) (nat_le least_nodes (items_len values))) _
    (plain_holds Limit (member_place Nodes) (nat_le least_nodes (items_len values)) refl (tt, (tt, tt))) (λ enough.
    stops_each_few IsPlain (λ nodes. Unit {0}) length most_nodes (one_node trades)
    (λ nodes d start. leads_as (λ next. length next ≡ length nodes + 1) _ (one_node trades nodes d)
    (λ next more. (tt, more)) (one_node_counts trades nodes d))
    (λ nodes d start room. one_node_stops trades nodes d room) [] values tt (omega (arith, few, limits.nodes))))

module _ (trades : List (List ℕ)) (few : length trades ≤ 16384) where
  pub claimed_on_stops : (claim : Data) → StopsPlainly (claimed_on trades claim)
  unfolding claimed_on
  claimed_on_stops claim =
      stops_bind IsPlain (list_at (member_place On) (get (codes "on") claim)) _
      (list_stops (member_place On) (tt, (tt, tt)) (get (codes "on") claim)) (λ references.
      set_stops trades few (member_place On) (tt, (tt, tt)) references)

  abbrev HasFew : Offered → Type 0
  HasFew offered = offered.named < 2 ^ length trades

  module _ (place : List PlaceStep) (plain : IsPlainPlace place) (limit : ℕ) where
    one_offer_below : (offered : Offered) (entry : Data) → HasFew offered
        → Leads HasFew (one_offer trades place limit offered entry)
    unfolding one_offer
    one_offer_below offered entry below =
        leads_bind (λ next. next.0 < length trades) HasFew (price_of trades place limit offered.named entry) _
        (entry_below (length trades) few (new_trade trades) (trades_refer trades few place plain) place plain limit
        offered.named entry) (λ next known.
        leads_ok HasFew (record {
          named = toggle offered.named next.0;
          contracts =
              offered.contracts ++ record { trade = next.0; price = next.1 } ∷ [];
        })
        (toggle_within offered.named next.0 (length trades) below known))

    one_offer_stops : (offered : Offered) (entry : Data) → HasFew offered
        → StopsPlainly (one_offer trades place limit offered entry)
    unfolding one_offer
    one_offer_stops offered entry below =
        stops_bind IsPlain (price_of trades place limit offered.named entry) _
        (entry_stops (length trades) few (new_trade trades) (trades_refer trades few place plain) place plain limit
        offered.named entry below) (λ next.
        stops_ok IsPlain (record {
          named = toggle offered.named next.0;
          contracts =
              offered.contracts ++ record { trade = next.0; price = next.1 } ∷ [];
        }))

    offers_stop : (entries : Items) → StopsPlainly (each (one_offer trades place limit) no_offers entries)
    offers_stop entries =
        stops_each IsPlain HasFew (one_offer trades place limit) one_offer_below one_offer_stops no_offers entries
        (pow_pos (length trades))

module _ (listed : Listed) (few : length listed.names.trades ≤ 16384) where
  pub claimed_prices_stop : (claim : Data) → Stops (IsTold listed.names.trades) (claimed_prices listed claim)
  unfolding claimed_prices
  claimed_prices_stop claim =
      let trades = listed.names.trades in
      stops_bind (IsTold trades) (list_at (member_place Prices) (get (codes "prices") claim)) _
      (told_from_plain trades _ (list_stops (member_place Prices) (tt, (tt, tt)) (get (codes "prices") claim)))
      (λ entries.
      prices_stop trades few (member_place Prices) (tt, (tt, tt)) listed.limits.number entries)

  pub claimed_contracts_stop : (claim : Data) → StopsPlainly (claimed_contracts listed claim)
  unfolding claimed_contracts
  claimed_contracts_stop claim =
      let trades = listed.names.trades in
      let limit = listed.limits.number in
      let place = member_place Contracts in
      stops_bind IsPlain (list_at place (get (codes "contracts") claim)) _
      (list_stops place (tt, (tt, tt)) (get (codes "contracts") claim)) (λ entries.
      stops_bind IsPlain (each (one_offer trades place limit) no_offers entries) _
      (offers_stop trades few place (tt, (tt, tt)) limit entries) (λ offered.
      stops_ok IsPlain offered.contracts))
