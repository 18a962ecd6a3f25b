-- The kinds of faults at which the reading of a claim stops.
use Rattle.std.proofs.Common.{◌≡◌, ℕ, ◌&&◌, ◌++◌, [], ◌∷◌, Bool, true, false, List, length, slice_get, Option, Some, None, Result, Ok, pos, refl}
use Rattle.std.specs.Prelude.{codes, nat_le, int_le, unsigned_abs, not, option_and_then, is_some, slice_set}
use Rattle.serde_json.specs.Data.{Data, null, boolean, number, string, array, object, Items}
use Rattle.serde_json.specs.Events.{items_len}
use Rattle.serde_json.specs.Find.{get, as_array, as_i64, as_number, as_object, as_str}
use Rattle.tn_base.specs.Sets.{has, size, toggle}
use Rattle.tn_base.specs.declared.side.Side.{Side}
use Rattle.tn_said.specs.declared.fault.FaultKind.{FaultKind}
use Rattle.tn_said.specs.declared.fault.FaultKind.TheVariants.{Shape, UnknownFirm, UnknownTrade, Limit, AmountRange, NotOwnTrade, SameTrade, PriceMissing, BadOver}
use Rattle.tn_model.specs.Limits.{least_nodes, most_parts, most_planned_trades}
use Rattle.tn_model.specs.Prices.{price_at}
use Rattle.tn_model.specs.Choices.{contracts_of}
use Rattle.tn_said.specs.Claim.{on_market, on_firms}
use Rattle.tn_said.specs.declared.claim.FirmClaim.TheVariants.{Accepted, ExchangeFails, NoPrices}
use Rattle.tn_said.specs.declared.claim.MarketClaim.TheVariants.{Equilibrium, Better, Impossible, Supported, Cycle, Solved, Drops, Completes, Blocks}
use Rattle.tn_said.specs.declared.part.Part.{Part}
use Rattle.tn_said.specs.declared.place.PlaceStep.{PlaceStep}
use Rattle.tn_said.specs.declared.place.PlaceStep.TheVariants.{Index, Trade, Key}
use Rattle.tn_said.specs.declared.place.Word.TheVariants.{Answer, Arrangement, At, Bundle, Contracts, Cost, Firm as FirmWord, Gain, Keeps, Nodes, On, Over, Prices, Surplus, X, Y}
use Rattle.tn_said.specs.declared.said.Fault.{Fault}
use Rattle.tn_names.specs.Names.{number_of}
use Rattle.tn_read_shapes.specs.declared.claims.ClaimKind.{ClaimKind}
use Rattle.tn_read_shapes.specs.declared.claims.ClaimKind.TheVariants.{OnMarket, OnFirms}
use Rattle.tn_read_shapes.specs.declared.claims.FirmClaimKind.{FirmClaimKind}
use Rattle.tn_read_shapes.specs.declared.claims.FirmClaimKind.TheVariants.{Accepted as AcceptedKind, ExchangeFails as ExchangeFailsKind, NoPrices as NoPricesKind}
use Rattle.tn_read_shapes.specs.declared.claims.MarketClaimKind.{MarketClaimKind}
use Rattle.tn_read_shapes.specs.declared.claims.MarketClaimKind.TheVariants.{Equilibrium as EquilibriumKind, Better as BetterKind, Impossible as ImpossibleKind, Supported as SupportedKind, Cycle as CycleKind, Solved as SolvedKind, Drops as DropsKind, Completes as CompletesKind, Blocks as BlocksKind}
use Rattle.tn_read_shapes.specs.declared.members.ObjectKind.{ObjectKind}
use Rattle.tn_read_shapes.specs.declared.members.ObjectKind.TheVariants.{Arrangement as ArrangementObject, Outcome as OutcomeObject, Claim as ClaimObject}
use Rattle.tn_read_shapes.specs.Claims.{claim_named}
use Rattle.tn_read_shapes.specs.Members.{allows_all}
use Rattle.tn_read_shapes.specs.Reading.{◌>>=◌, each, fault, holds, wanted}
use Rattle.tn_read_shapes.specs.Shapes.{few_at, list_at, number_at, number_in, object_at, object_of, text_at, three_at, three_of, two_at, two_of, whole_at}
use Rattle.tn_read_shapes.proofs.StopLemmas.{Stops, stops_bind, stops_each, stops_err, stops_ok}
use Rattle.tn_read_references.specs.Ordered.{Listed}
use Rattle.tn_read_references.specs.Entries.{Numbered, entry_of, one_entry}
use Rattle.tn_read_references.specs.References.{bundle_at, firm_at, new_own, new_trade, own_position, own_reference, position_on, trade_at}
use Rattle.tn_read_parts.specs.Arranged.{arrangement_of, on_of, on_place, prices_place, trades_on_of}
use Rattle.tn_read_parts.specs.Lists.{contracts_at, first_without, named_prices, one_on, one_price, price_of, prices_of, unless_missing}
use Rattle.tn_read_parts.specs.Signed.{contracts_place, outcome_of, outcome_place, over_at, over_place}
use Rattle.tn_read_claims.specs.Claimed.{accepted_of, better_of, blocks_of, claim_by, claim_of, completes_of, cycle_of, drops_of, equilibrium_of, failure_of, firm_claim_by, frame_of, impossible_of, kind_of, market_claim_by, named_claim, no_prices_of, solved_of, supported_of}
use Rattle.tn_read_claims.specs.Laws.{FaultsOfClaims, is_claim_fault}
use Rattle.tn_read_claims.specs.Members.{Offered, claim_place, claimed_bundle, claimed_contracts, claimed_firm, claimed_nodes, claimed_number, claimed_on, claimed_over, claimed_prices, gain_or_null, member_place, no_offers, node_or_null, one_node, one_offer, own_or_null, unless_null}
use Rattle.tn_read_claims.specs.Planned.{claimed_plan, in_part, one_part, part_at, part_of, plan_place, plan_weight_at}

abbrev Known : Fault → Type 0
Known f = is_claim_fault f.kind ≡ true

wanted_kinds : {A : Type 0} (kind : FaultKind) (place : List PlaceStep) (found : Option A) → is_claim_fault kind ≡ true
    → Stops Known (wanted kind place found)
wanted_kinds kind place (Some x) known = stops_ok Known x
wanted_kinds kind place None known = stops_err Known (fault kind place) known

holds_kinds : (kind : FaultKind) (place : List PlaceStep) (test : Bool) → is_claim_fault kind ≡ true
    → Stops Known (holds kind place test)
holds_kinds kind place true known = stops_ok Known tt
holds_kinds kind place false known = stops_err Known (fault kind place) known

each_kinds : {A : Type 0} (step : A → Data → Result A Fault) → ((found : A) (d : Data) → Stops Known (step found d))
    → (found : A) (ds : Items) → Stops Known (each step found ds)
each_kinds step one found ds =
    stops_each Known (λ x. Unit {0}) step (λ x d start. record { at = λ y e. tt }) (λ x d start. one x d) found ds tt

-- ---- shapes

text_kinds : (place : List PlaceStep) (value : Option Data) → Stops Known (text_at place value)
text_kinds place value = wanted_kinds Shape place (option_and_then as_str value) refl

list_kinds : (place : List PlaceStep) (value : Option Data) → Stops Known (list_at place value)
list_kinds place value = wanted_kinds Shape place (option_and_then as_array value) refl

whole_kinds : (place : List PlaceStep) (value : Option Data) → Stops Known (whole_at place value)
whole_kinds place value = wanted_kinds Shape place (option_and_then as_i64 (option_and_then as_number value)) refl

number_kinds : (limit : ℕ) (place : List PlaceStep) (value : Option Data) → Stops Known (number_in limit place value)
unfolding number_in
number_kinds limit place value =
    stops_bind Known (whole_at place value) _ (whole_kinds place value) (λ z.
    stops_bind Known (holds AmountRange place (nat_le (unsigned_abs z) limit)) _
    (holds_kinds AmountRange place (nat_le (unsigned_abs z) limit) refl) (λ small.
    stops_ok Known (z)))

few_kinds : (limit : ℕ) (place : List PlaceStep) (value : Option Data) → Stops Known (few_at limit place value)
unfolding few_at
few_kinds limit place value =
    stops_bind Known (list_at place value) _ (list_kinds place value) (λ items.
    stops_bind Known (holds Limit place (nat_le (items_len items) limit)) _
    (holds_kinds Limit place (nat_le (items_len items) limit) refl) (λ few.
    stops_ok Known (items)))

object_kinds : (kind : ObjectKind) (place : List PlaceStep) (value : Option Data)
    → Stops Known (object_of kind place value)
unfolding object_of
object_kinds kind place value =
    stops_bind Known (wanted Shape place (option_and_then as_object value)) _
    (wanted_kinds Shape place (option_and_then as_object value) refl) (λ members.
    holds_kinds Shape place (allows_all kind members) refl)

two_kinds : (place : List PlaceStep) (value : Data) → Stops Known (two_at place value)
unfolding two_at
two_kinds place value =
    stops_bind Known (list_at place (Some value)) _ (list_kinds place (Some value)) (λ items.
    wanted_kinds Shape place (two_of items) refl)

three_kinds : (place : List PlaceStep) (value : Data) → Stops Known (three_at place value)
unfolding three_at
three_kinds place value =
    stops_bind Known (list_at place (Some value)) _ (list_kinds place (Some value)) (λ items.
    wanted_kinds Shape place (three_of items) refl)

over_kinds : (limit : ℕ) (place : List PlaceStep) (value : Option Data) → Stops Known (over_at limit place value)
unfolding over_at
over_kinds limit place value =
    stops_bind Known (whole_at place value) _ (whole_kinds place value) (λ over.
    stops_bind Known (holds BadOver place (int_le (pos 1) over && int_le over (pos limit))) _
    (holds_kinds BadOver place (int_le (pos 1) over && int_le over (pos limit)) refl) (λ within.
    stops_ok Known (over)))

-- ---- references

firm_kinds : (firms : List (List ℕ)) (place : List PlaceStep) (value : Option Data)
    → Stops Known (firm_at firms place value)
unfolding firm_at
firm_kinds firms place value =
    stops_bind Known (text_at place value) _ (text_kinds place value) (λ name.
    wanted_kinds UnknownFirm place (number_of firms name) refl)

trade_kinds : (trades : List (List ℕ)) (place : List PlaceStep) (value : Data)
    → Stops Known (trade_at trades place value)
unfolding trade_at
trade_kinds trades place value =
    stops_bind Known (text_at place (Some value)) _ (text_kinds place (Some value)) (λ name.
    wanted_kinds UnknownTrade place (number_of trades name) refl)

new_trade_kinds : (trades : List (List ℕ)) (place : List PlaceStep) (named : ℕ) (value : Data)
    → Stops Known (new_trade trades place named value)
unfolding new_trade
new_trade_kinds trades place named value =
    stops_bind Known (trade_at trades place value) _ (trade_kinds trades place value) (λ t.
    stops_bind Known (holds SameTrade place (not (has named t))) _
    (holds_kinds SameTrade place (not (has named t)) refl) (λ new.
    stops_ok Known (t)))

own_kinds : (listed : Listed) (f : ℕ) (side : Option Side) (place : List PlaceStep) (value : Data)
    → Stops Known (own_position listed f side place value)
unfolding own_position
own_kinds listed f side place value =
    stops_bind Known (trade_at listed.names.trades place value) _ (trade_kinds listed.names.trades place value) (λ t.
    wanted_kinds NotOwnTrade place (option_and_then (position_on side f) (slice_get listed.ends t)) refl)

new_own_kinds : (listed : Listed) (f : ℕ) (place : List PlaceStep) (bundle : ℕ) (value : Data)
    → Stops Known (new_own listed f None place bundle value)
unfolding new_own
new_own_kinds listed f place bundle value =
    stops_bind Known (own_position listed f None place value) _ (own_kinds listed f None place value) (λ k.
    stops_bind Known (holds SameTrade place (not (has bundle k))) _
    (holds_kinds SameTrade place (not (has bundle k)) refl) (λ new.
    stops_ok Known (k)))

reference_kinds : (listed : Listed) (f : ℕ) (place : List PlaceStep) (bundle : ℕ) (value : Data)
    → Stops Known (own_reference listed f place bundle value)
unfolding own_reference
reference_kinds listed f place bundle value =
    stops_bind Known (new_own listed f None (place ++ Index (size bundle) ∷ []) bundle value) _
    (new_own_kinds listed f (place ++ Index (size bundle) ∷ []) bundle value) (λ k.
    stops_ok Known (toggle bundle k))

bundle_kinds : (listed : Listed) (f : ℕ) (place : List PlaceStep) (value : Option Data)
    → Stops Known (bundle_at listed f place value)
unfolding bundle_at
bundle_kinds listed f place value =
    stops_bind Known (list_at place value) _ (list_kinds place value) (λ references.
    each_kinds (own_reference listed f place) (reference_kinds listed f place) 0 references)

-- ---- lists

entry_kinds : (trades : List (List ℕ)) (place : List PlaceStep) (limit : ℕ) (named : ℕ) (entry : Data)
    → Stops Known (price_of trades place limit named entry)
unfolding entry_of
entry_kinds trades place limit named entry =
    stops_bind Known (two_at (place ++ Index (size named) ∷ []) entry) _
    (two_kinds (place ++ Index (size named) ∷ []) entry) (λ two.
    stops_bind Known (new_trade trades (place ++ Index (size named) ∷ Index 0 ∷ []) named two.0) _
    (new_trade_kinds trades (place ++ Index (size named) ∷ Index 0 ∷ []) named two.0) (λ k.
    stops_bind Known (number_at limit (place ++ Index (size named) ∷ Index 1 ∷ []) two.1) _
    (number_kinds limit (place ++ Index (size named) ∷ Index 1 ∷ []) (Some two.1)) (λ z.
    stops_ok Known (k, z))))

one_price_kinds : (trades : List (List ℕ)) (place : List PlaceStep) (limit : ℕ) (numbered : Numbered) (entry : Data)
    → Stops Known (one_price trades place limit numbered entry)
unfolding one_entry
one_price_kinds trades place limit numbered entry =
    stops_bind Known (price_of trades place limit numbered.named entry) _
    (entry_kinds trades place limit numbered.named entry) (λ next.
    stops_ok Known (record {
      named = toggle numbered.named next.0;
      numbers =
          slice_set numbered.numbers next.0 next.1;
    }))

named_kinds : (trades : List (List ℕ)) (place : List PlaceStep) (limit : ℕ) (entries : Items)
    → Stops Known (named_prices trades place limit entries)
unfolding named_prices
named_kinds trades place limit entries =
    each_kinds (one_price trades place limit) (one_price_kinds trades place limit) _ entries

missing_kinds : (place : List PlaceStep) (found : Option ℕ) → Stops Known (unless_missing place found)
missing_kinds place None = stops_ok Known tt
missing_kinds place (Some t) = stops_err Known (fault PriceMissing (place ++ Trade t ∷ [])) refl

prices_kinds : (trades : List (List ℕ)) (place : List PlaceStep) (limit : ℕ) (entries : Items)
    → Stops Known (prices_of trades place limit entries)
unfolding prices_of
prices_kinds trades place limit entries =
    stops_bind Known (named_prices trades place limit entries) _ (named_kinds trades place limit entries) (λ priced.
    stops_bind Known (unless_missing place (first_without priced.named 0 (length trades))) _
    (missing_kinds place (first_without priced.named 0 (length trades))) (λ complete.
    stops_ok Known (priced.numbers)))

contracts_kinds : (trades : List (List ℕ)) (place : List PlaceStep) (limit : ℕ) (entries : Items)
    → Stops Known (contracts_at trades place limit entries)
unfolding contracts_at
contracts_kinds trades place limit entries =
    stops_bind Known (named_prices trades place limit entries) _ (named_kinds trades place limit entries) (λ priced.
    stops_ok Known (contracts_of priced.named (price_at priced.numbers) (length trades)))

one_on_kinds : (trades : List (List ℕ)) (place : List PlaceStep) (on : ℕ) (value : Data)
    → Stops Known (one_on trades place on value)
unfolding one_on
one_on_kinds trades place on value =
    stops_bind Known (new_trade trades (place ++ Index (size on) ∷ []) on value) _
    (new_trade_kinds trades (place ++ Index (size on) ∷ []) on value) (λ t.
    stops_ok Known (toggle on t))

-- ---- the parts that claims speak of

on_kinds : (trades : List (List ℕ)) (top : Data) → Stops Known (on_of trades top)
unfolding on_of
on_kinds trades top =
    stops_bind Known (wanted Shape (Key Arrangement ∷ []) (get (codes "arrangement") top)) _
    (wanted_kinds Shape (Key Arrangement ∷ []) (get (codes "arrangement") top) refl) (λ part.
    stops_bind Known (object_of ArrangementObject (Key Arrangement ∷ []) (Some part)) _
    (object_kinds ArrangementObject (Key Arrangement ∷ []) (Some part)) (λ object.
    stops_bind Known (list_at on_place (get (codes "on") part)) _ (list_kinds on_place (get (codes "on") part))
    (λ references.
    stops_bind Known (each (one_on trades on_place) 0 references) _
    (each_kinds (one_on trades on_place) (one_on_kinds trades on_place) 0 references) (λ on.
    stops_ok Known (part, on)))))

trades_on_kinds : (trades : List (List ℕ)) (top : Data) → Stops Known (trades_on_of trades top)
unfolding trades_on_of
trades_on_kinds trades top =
    stops_bind Known (on_of trades top) _ (on_kinds trades top) (λ part.
    stops_ok Known (part.1))

arrangement_kinds : (listed : Listed) (top : Data) → Stops Known (arrangement_of listed top)
unfolding arrangement_of
arrangement_kinds listed top =
    let trades = listed.names.trades in
    let limit = listed.limits.price in
    stops_bind Known (on_of trades top) _ (on_kinds trades top) (λ part.
    stops_bind Known (list_at prices_place (get (codes "prices") part.0)) _
    (list_kinds prices_place (get (codes "prices") part.0)) (λ entries.
    stops_bind Known (prices_of trades prices_place limit entries) _ (prices_kinds trades prices_place limit entries)
    (λ prices.
    stops_ok Known (record { on = part.1; prices = prices }))))

outcome_kinds : (listed : Listed) (top : Data) → Stops Known (outcome_of listed top)
unfolding outcome_of
outcome_kinds listed top =
    let trades = listed.names.trades in
    let most = listed.limits.over in
    let limit = listed.limits.numerator in
    stops_bind Known (wanted Shape outcome_place (get (codes "outcome") top)) _
    (wanted_kinds Shape outcome_place (get (codes "outcome") top) refl) (λ part.
    stops_bind Known (object_of OutcomeObject outcome_place (Some part)) _
    (object_kinds OutcomeObject outcome_place (Some part)) (λ object.
    stops_bind Known (over_at most over_place (get (codes "over") part)) _
    (over_kinds most over_place (get (codes "over") part)) (λ over.
    stops_bind Known (list_at contracts_place (get (codes "contracts") part)) _
    (list_kinds contracts_place (get (codes "contracts") part)) (λ entries.
    stops_bind Known (contracts_at trades contracts_place limit entries) _
    (contracts_kinds trades contracts_place limit entries) (λ contracts.
    stops_ok Known (record { over = over; contracts = contracts }))))))

-- ---- the members of claims

module _ {A : Type 0} (read : Data → Result A Fault) (stops : (value : Data) → Stops Known (read value)) where
  there_kinds : (value : Data) → Stops Known (read value >>= λ found. Ok (Some found))
  there_kinds value = stops_bind Known (read value) _ (stops value) (λ found. stops_ok Known (Some found))

  null_kinds : (value : Data) → Stops Known (unless_null read value)
  null_kinds null = stops_ok Known None
  null_kinds (boolean b) = there_kinds (boolean b)
  null_kinds (number n) = there_kinds (number n)
  null_kinds (string s) = there_kinds (string s)
  null_kinds (array ds) = there_kinds (array ds)
  null_kinds (object ms) = there_kinds (object ms)

gain_kinds : (listed : Listed) (value : Option Data) → Stops Known (gain_or_null listed value)
gain_kinds listed value =
    stops_bind Known (wanted Shape (member_place Gain) value) _ (wanted_kinds Shape (member_place Gain) value refl)
    (λ gain.
    null_kinds (number_at listed.limits.number (member_place Gain))
    (λ d. number_kinds listed.limits.number (member_place Gain) (Some d)) gain)

at_kinds : (listed : Listed) (f : ℕ) (place : List PlaceStep) (value : Option Data)
    → Stops Known (own_or_null listed f place value)
at_kinds listed f place value =
    stops_bind Known (wanted Shape place value) _ (wanted_kinds Shape place value refl) (λ trade.
    null_kinds (own_position listed f None place) (own_kinds listed f None place) trade)

claimed_on_kinds : (trades : List (List ℕ)) (claim : Data) → Stops Known (claimed_on trades claim)
unfolding claimed_on
claimed_on_kinds trades claim =
    stops_bind Known (list_at (member_place On) (get (codes "on") claim)) _
    (list_kinds (member_place On) (get (codes "on") claim)) (λ references.
    each_kinds (one_on trades (member_place On)) (one_on_kinds trades (member_place On)) 0 references)

claimed_prices_kinds : (listed : Listed) (claim : Data) → Stops Known (claimed_prices listed claim)
unfolding claimed_prices
claimed_prices_kinds listed claim =
    stops_bind Known (list_at (member_place Prices) (get (codes "prices") claim)) _
    (list_kinds (member_place Prices) (get (codes "prices") claim)) (λ entries.
    prices_kinds listed.names.trades (member_place Prices) listed.limits.number entries)

one_node_kinds : (trades : List (List ℕ)) (nodes : List (Option ℕ)) (value : Data)
    → Stops Known (one_node trades nodes value)
unfolding one_node
one_node_kinds trades nodes value =
    stops_bind Known (node_or_null trades (member_place Nodes ++ Index (length nodes) ∷ []) value) _
    (null_kinds (trade_at trades (member_place Nodes ++ Index (length nodes) ∷ []))
    (trade_kinds trades (member_place Nodes ++ Index (length nodes) ∷ [])) value) (λ node.
    stops_ok Known (nodes ++ node ∷ []))

nodes_kinds : (listed : Listed) (claim : Data) → Stops Known (claimed_nodes listed claim)
unfolding claimed_nodes
nodes_kinds listed claim =
    let trades = listed.names.trades in
    let limit = listed.limits.nodes in
    stops_bind Known (few_at limit (member_place Nodes) (get (codes "nodes") claim)) _
    (few_kinds limit (member_place Nodes) (get (codes "nodes") claim)) (λ values.
    stops_bind Known (holds Limit (member_place Nodes) (nat_le least_nodes (items_len values))) _
    (holds_kinds Limit (member_place Nodes) (nat_le least_nodes (items_len values)) refl) (λ enough.
    each_kinds (one_node trades) (one_node_kinds trades) [] values))

one_offer_kinds : (trades : List (List ℕ)) (place : List PlaceStep) (limit : ℕ) (offered : Offered) (entry : Data)
    → Stops Known (one_offer trades place limit offered entry)
unfolding one_offer
one_offer_kinds trades place limit offered entry =
    stops_bind Known (price_of trades place limit offered.named entry) _
    (entry_kinds trades place limit offered.named entry) (λ next.
    stops_ok Known (record {
      named = toggle offered.named next.0;
      contracts =
          offered.contracts ++ record { trade = next.0; price = next.1 } ∷ [];
    }))

claimed_contracts_kinds : (listed : Listed) (claim : Data) → Stops Known (claimed_contracts listed claim)
unfolding claimed_contracts
claimed_contracts_kinds listed claim =
    let trades = listed.names.trades in
    let limit = listed.limits.number in
    stops_bind Known (list_at (member_place Contracts) (get (codes "contracts") claim)) _
    (list_kinds (member_place Contracts) (get (codes "contracts") claim)) (λ entries.
    stops_bind Known (each (one_offer trades (member_place Contracts) limit) no_offers entries) _
    (each_kinds (one_offer trades (member_place Contracts) limit)
    (one_offer_kinds trades (member_place Contracts) limit) no_offers entries) (λ offered.
    stops_ok Known (offered.contracts)))

weight_kinds : (listed : Listed) (place : List PlaceStep) (value : Data) → Stops Known (plan_weight_at listed place value)
unfolding plan_weight_at
weight_kinds listed place value =
    stops_bind Known (whole_at place (Some value)) _ (whole_kinds place (Some value)) (λ weight.
    let test = int_le (pos 1) weight && int_le weight (pos listed.limits.claimed_over) in
    stops_bind Known (holds AmountRange place test) _ (holds_kinds AmountRange place test refl) (λ within.
    stops_ok Known (weight)))

part_kinds : (listed : Listed) (k : ℕ) (entry : Data) → Stops Known (part_of listed k entry)
unfolding part_of
part_kinds listed k entry =
    stops_bind Known (three_at (part_at k) entry) _ (three_kinds (part_at k) entry) (λ three.
    stops_bind Known (firm_at listed.names.firms (in_part k 0) (Some three.0)) _
    (firm_kinds listed.names.firms (in_part k 0) (Some three.0)) (λ f.
    stops_bind Known (bundle_at listed f (in_part k 1) (Some three.1)) _
    (bundle_kinds listed f (in_part k 1) (Some three.1)) (λ x.
    stops_bind Known (plan_weight_at listed (in_part k 2) three.2) _ (weight_kinds listed (in_part k 2) three.2) (λ weight.
    stops_ok Known (record { firm = f; bundle = x; weight = weight })))))

one_part_kinds : (listed : Listed) (parts : List Part) (entry : Data) → Stops Known (one_part listed parts entry)
unfolding one_part
one_part_kinds listed parts entry =
    stops_bind Known (part_of listed (length parts) entry) _ (part_kinds listed (length parts) entry) (λ part.
    stops_ok Known (parts ++ part ∷ []))

plan_kinds : (listed : Listed) (claim : Data) → Stops Known (claimed_plan listed claim)
unfolding claimed_plan
plan_kinds listed claim =
    stops_bind Known (few_at most_parts plan_place (get (codes "plan") claim)) _
    (few_kinds most_parts plan_place (get (codes "plan") claim)) (λ entries.
    each_kinds (one_part listed) (one_part_kinds listed) [] entries)

-- ---- claims

module _ (listed : Listed) (top claim : Data) where
  equilibrium_kinds : Stops Known (equilibrium_of listed top claim)
  unfolding equilibrium_of
  equilibrium_kinds =
      stops_bind Known (arrangement_of listed top) _ (arrangement_kinds listed top) (λ at.
      stops_bind Known (frame_of (OnMarket EquilibriumKind) claim) _
      (object_kinds (ClaimObject (OnMarket EquilibriumKind)) claim_place (Some claim)) (λ frame.
      stops_bind Known (claimed_number listed Surplus (get (codes "surplus") claim)) _
      (number_kinds listed.limits.number (member_place Surplus) (get (codes "surplus") claim)) (λ surplus.
      stops_ok Known (Equilibrium (record { on = at.on; prices = at.prices }) surplus))))

  better_kinds : Stops Known (better_of listed top claim)
  unfolding better_of
  better_kinds =
      stops_bind Known (arrangement_of listed top) _ (arrangement_kinds listed top) (λ at.
      stops_bind Known (frame_of (OnMarket BetterKind) claim) _ (object_kinds (ClaimObject (OnMarket BetterKind)) claim_place (Some claim))
      (λ frame.
      stops_bind Known (claimed_firm listed.names.firms claim) _
      (firm_kinds listed.names.firms (member_place FirmWord) (get (codes "firm") claim)) (λ f.
      stops_bind Known (claimed_bundle listed f Bundle (get (codes "bundle") claim)) _
      (bundle_kinds listed f (member_place Bundle) (get (codes "bundle") claim)) (λ x.
      stops_bind Known (claimed_number listed Gain (get (codes "gain") claim)) _
      (number_kinds listed.limits.number (member_place Gain) (get (codes "gain") claim)) (λ gain.
      stops_ok Known (Better (record { on = at.on; prices = at.prices }) f x gain))))))

  impossible_kinds : Stops Known (impossible_of listed top claim)
  unfolding impossible_of
  impossible_kinds =
      stops_bind Known (trades_on_of listed.names.trades top) _ (trades_on_kinds listed.names.trades top) (λ on.
      stops_bind Known (frame_of (OnMarket ImpossibleKind) claim) _ (object_kinds (ClaimObject (OnMarket ImpossibleKind)) claim_place
      (Some claim)) (λ frame.
      stops_bind Known (claimed_firm listed.names.firms claim) _
      (firm_kinds listed.names.firms (member_place FirmWord) (get (codes "firm") claim)) (λ f.
      stops_ok Known (Impossible on f))))

  accepted_kinds : Stops Known (accepted_of claim)
  unfolding accepted_of
  accepted_kinds =
      stops_bind Known (frame_of (OnFirms AcceptedKind) claim) _ (object_kinds (ClaimObject (OnFirms AcceptedKind)) claim_place
      (Some claim)) (λ frame.
      stops_ok Known (Accepted))

  failure_kinds : Stops Known (failure_of listed claim)
  unfolding failure_of
  failure_kinds =
      stops_bind Known (frame_of (OnFirms ExchangeFailsKind) claim) _
      (object_kinds (ClaimObject (OnFirms ExchangeFailsKind)) claim_place (Some claim)) (λ frame.
      stops_bind Known (claimed_firm listed.names.firms claim) _
      (firm_kinds listed.names.firms (member_place FirmWord) (get (codes "firm") claim)) (λ f.
      stops_bind Known (own_or_null listed f (member_place At) (get (codes "at") claim)) _
      (at_kinds listed f (member_place At) (get (codes "at") claim)) (λ at.
      stops_bind Known (claimed_bundle listed f X (get (codes "x") claim)) _
      (bundle_kinds listed f (member_place X) (get (codes "x") claim)) (λ x.
      stops_bind Known (claimed_bundle listed f Y (get (codes "y") claim)) _
      (bundle_kinds listed f (member_place Y) (get (codes "y") claim)) (λ y.
      stops_ok Known (ExchangeFails f x y at))))))

  supported_kinds : Stops Known (supported_of listed top claim)
  unfolding supported_of
  supported_kinds =
      stops_bind Known (trades_on_of listed.names.trades top) _ (trades_on_kinds listed.names.trades top) (λ on.
      stops_bind Known (frame_of (OnMarket SupportedKind) claim) _ (object_kinds (ClaimObject (OnMarket SupportedKind)) claim_place
      (Some claim)) (λ frame.
      stops_bind Known (claimed_prices listed claim) _ (claimed_prices_kinds listed claim) (λ prices.
      stops_ok Known (Supported on prices))))

  cycle_kinds : Stops Known (cycle_of listed top claim)
  unfolding cycle_of
  cycle_kinds =
      stops_bind Known (trades_on_of listed.names.trades top) _ (trades_on_kinds listed.names.trades top) (λ on.
      stops_bind Known (frame_of (OnMarket CycleKind) claim) _ (object_kinds (ClaimObject (OnMarket CycleKind)) claim_place (Some claim))
      (λ frame.
      stops_bind Known (claimed_number listed Cost (get (codes "cost") claim)) _
      (number_kinds listed.limits.number (member_place Cost) (get (codes "cost") claim)) (λ cost.
      stops_bind Known (claimed_nodes listed claim) _ (nodes_kinds listed claim) (λ nodes.
      stops_ok Known (Cycle on nodes cost)))))

  solved_kinds : Stops Known (solved_of listed claim)
  unfolding solved_of
  solved_kinds =
      stops_bind Known (frame_of (OnMarket SolvedKind) claim) _ (object_kinds (ClaimObject (OnMarket SolvedKind)) claim_place (Some claim))
      (λ frame.
      stops_bind Known (claimed_on listed.names.trades claim) _ (claimed_on_kinds listed.names.trades claim) (λ on.
      stops_bind Known (claimed_prices listed claim) _ (claimed_prices_kinds listed claim) (λ prices.
      stops_bind Known (claimed_number listed Surplus (get (codes "surplus") claim)) _
      (number_kinds listed.limits.number (member_place Surplus) (get (codes "surplus") claim)) (λ surplus.
      stops_ok Known (Solved (record { on = on; prices = prices }) surplus)))))

  drops_kinds : Stops Known (drops_of listed top claim)
  unfolding drops_of
  drops_kinds =
      stops_bind Known (outcome_of listed top) _ (outcome_kinds listed top) (λ outcome.
      stops_bind Known (frame_of (OnMarket DropsKind) claim) _ (object_kinds (ClaimObject (OnMarket DropsKind)) claim_place (Some claim))
      (λ frame.
      stops_bind Known (claimed_firm listed.names.firms claim) _
      (firm_kinds listed.names.firms (member_place FirmWord) (get (codes "firm") claim)) (λ f.
      stops_bind Known (gain_or_null listed (get (codes "gain") claim)) _ (gain_kinds listed (get (codes "gain") claim))
      (λ gain.
      stops_bind Known (claimed_bundle listed f Keeps (get (codes "keeps") claim)) _
      (bundle_kinds listed f (member_place Keeps) (get (codes "keeps") claim)) (λ keeps.
      stops_bind Known (claimed_over listed claim) _ (over_kinds listed.limits.claimed_over (member_place Over)
      (get (codes "over") claim)) (λ over.
      stops_ok Known (Drops outcome f keeps gain over)))))))

  completes_kinds : Stops Known (completes_of listed top claim)
  unfolding completes_of
  completes_kinds =
      stops_bind Known (outcome_of listed top) _ (outcome_kinds listed top) (λ outcome.
      stops_bind Known (frame_of (OnMarket CompletesKind) claim) _ (object_kinds (ClaimObject (OnMarket CompletesKind)) claim_place
      (Some claim)) (λ frame.
      stops_bind Known (claimed_over listed claim) _ (over_kinds listed.limits.claimed_over (member_place Over)
      (get (codes "over") claim)) (λ over.
      stops_bind Known (claimed_prices listed claim) _ (claimed_prices_kinds listed claim) (λ prices.
      stops_ok Known (Completes outcome prices over)))))

  blocks_kinds : Stops Known (blocks_of listed top claim)
  unfolding blocks_of
  blocks_kinds =
      stops_bind Known (outcome_of listed top) _ (outcome_kinds listed top) (λ outcome.
      stops_bind Known (frame_of (OnMarket BlocksKind) claim) _ (object_kinds (ClaimObject (OnMarket BlocksKind)) claim_place (Some claim))
      (λ frame.
      stops_bind Known (claimed_contracts listed claim) _ (claimed_contracts_kinds listed claim) (λ contracts.
      stops_bind Known (claimed_over listed claim) _ (over_kinds listed.limits.claimed_over (member_place Over)
      (get (codes "over") claim)) (λ over.
      stops_ok Known (Blocks outcome contracts over)))))

  no_prices_kinds : Stops Known (no_prices_of listed claim)
  unfolding no_prices_of
  no_prices_kinds =
      let few_trades = nat_le (length listed.ends) most_planned_trades in
      stops_bind Known (holds Limit claim_place few_trades) _ (holds_kinds Limit claim_place few_trades refl) (λ few.
      stops_bind Known (frame_of (OnFirms NoPricesKind) claim) _ (object_kinds (ClaimObject (OnFirms NoPricesKind)) claim_place
      (Some claim)) (λ frame.
      stops_bind Known (claimed_over listed claim) _ (over_kinds listed.limits.claimed_over (member_place Over)
      (get (codes "over") claim)) (λ over.
      stops_bind Known (claimed_plan listed claim) _ (plan_kinds listed claim) (λ plan.
      stops_ok Known (NoPrices plan over)))))

  by_market_kind : (kind : MarketClaimKind) → Stops Known (market_claim_by listed kind top claim)
  by_market_kind EquilibriumKind = equilibrium_kinds
  by_market_kind BetterKind = better_kinds
  by_market_kind ImpossibleKind = impossible_kinds
  by_market_kind SupportedKind = supported_kinds
  by_market_kind CycleKind = cycle_kinds
  by_market_kind SolvedKind = solved_kinds
  by_market_kind DropsKind = drops_kinds
  by_market_kind CompletesKind = completes_kinds
  by_market_kind BlocksKind = blocks_kinds

  by_firm_kind : (kind : FirmClaimKind) → Stops Known (firm_claim_by listed kind claim)
  by_firm_kind AcceptedKind = accepted_kinds
  by_firm_kind ExchangeFailsKind = failure_kinds
  by_firm_kind NoPricesKind = no_prices_kinds

  by_kind : (kind : ClaimKind) → Stops Known (claim_by listed kind top claim)
  by_kind (OnMarket kind) =
      stops_bind Known (market_claim_by listed kind top claim) _ (by_market_kind kind) (λ read.
      stops_ok Known (on_market read))
  by_kind (OnFirms kind) =
      stops_bind Known (firm_claim_by listed kind claim) _ (by_firm_kind kind) (λ read.
      stops_ok Known (on_firms read))

kind_kinds : (claim : Data) → Stops Known (kind_of claim)
unfolding kind_of
kind_kinds claim =
    stops_bind Known (text_at (member_place Answer) (get (codes "answer") claim)) _
    (text_kinds (member_place Answer) (get (codes "answer") claim)) (λ answer.
    wanted_kinds Shape (member_place Answer) (claim_named answer) refl)

named_claim_kinds : (top : Data) → Stops Known (named_claim top)
unfolding named_claim
named_claim_kinds top =
    stops_bind Known (wanted Shape claim_place (get (codes "claim") top)) _
    (wanted_kinds Shape claim_place (get (codes "claim") top) refl) (λ claim.
    stops_bind Known (object_at claim_place (Some claim)) _
    (holds_kinds Shape claim_place (is_some (option_and_then as_object (Some claim))) refl) (λ object.
    stops_bind Known (kind_of claim) _ (kind_kinds claim) (λ kind. stops_ok Known (kind, claim))))

claim_kinds : (listed : Listed) (top : Data) → Stops Known (claim_of listed top)
unfolding claim_of
claim_kinds listed top =
    stops_bind Known (named_claim top) _ (named_claim_kinds top) (λ named. by_kind listed top named.1 named.0)

pub faults_of_claims : FaultsOfClaims
faults_of_claims listed top found e = (claim_kinds listed top).at found e
