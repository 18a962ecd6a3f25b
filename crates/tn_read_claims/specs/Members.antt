-- The members of a claim: numbers, prices, nodes, contracts, a firm and its own trades.
use Rattle.std.specs.Prelude.{ℕ, ◌++◌, [], ◌∷◌, ℤ, nat_le, List, length, codes, Option, Some, None, Result, Ok}
use Rattle.serde_json.specs.Data.{Data, null}
use Rattle.serde_json.specs.Events.{items_len}
use Rattle.serde_json.specs.Find.{get}
use Rattle.tn_base.specs.Sets.{toggle}
use Rattle.tn_said.specs.declared.fault.FaultKind.TheVariants.{Shape, Limit}
use Rattle.tn_model.specs.Limits.{least_nodes}
use Rattle.tn_model.specs.declared.contract.Contract.{Contract}
use Rattle.tn_said.specs.declared.place.PlaceStep.{PlaceStep}
use Rattle.tn_said.specs.declared.place.PlaceStep.TheVariants.{Index, Key}
use Rattle.tn_said.specs.declared.place.Word.{Word}
use Rattle.tn_said.specs.declared.place.Word.TheVariants.{Claim, Contracts, Firm, Gain, Nodes, On, Over, Prices}
use Rattle.tn_said.specs.declared.said.Fault.{Fault}
use Rattle.tn_read_shapes.specs.Reading.{◌>>=◌, each, holds, wanted}
use Rattle.tn_read_shapes.specs.Shapes.{few_at, list_at, number_at, number_in}
use Rattle.tn_read_references.specs.Ordered.{Listed}
use Rattle.tn_read_references.specs.References.{bundle_at, firm_at, own_position, trade_at}
use Rattle.tn_read_parts.specs.Lists.{one_on, price_of, prices_of}
use Rattle.tn_read_parts.specs.Signed.{over_at}

abbrev pub claim_place : List PlaceStep
claim_place = Key Claim ∷ []

abbrev pub member_place : Word → List PlaceStep
member_place word = Key Claim ∷ Key word ∷ []

-- a number that a claim speaks of
abbrev pub claimed_number : Listed → Word → Option Data → Result ℤ Fault
claimed_number listed word value = number_in listed.limits.number (member_place word) value

-- none where a value is null, and otherwise what is read of it
abbrev pub unless_null : {A : Type 0} → (Data → Result A Fault) → Data → Result (Option A) Fault
unless_null read null = Ok None
unless_null read value = do
  found ← read value
  Ok (Some found)

-- the gain: a number, or null
abbrev pub gain_or_null : Listed → Option Data → Result (Option ℤ) Fault
gain_or_null listed value = do
  gain ← wanted Shape (member_place Gain) value
  unless_null (number_at listed.limits.number (member_place Gain)) gain

-- the claimed firm
abbrev pub claimed_firm : List (List ℕ) → Data → Result ℕ Fault
claimed_firm firms claim = firm_at firms (member_place Firm) (get (codes "firm") claim)

-- a bundle of firm f, as the list of its trades
abbrev pub claimed_bundle : Listed → ℕ → Word → Option Data → Result ℕ Fault
claimed_bundle listed f word value = bundle_at listed f (member_place word) value

-- a position of firm f, as its trade, or null
abbrev pub own_or_null : Listed → ℕ → List PlaceStep → Option Data → Result (Option ℕ) Fault
own_or_null listed f place value = do
  trade ← wanted Shape place value
  unless_null (own_position listed f None place) trade

-- the claim's denominator
abbrev pub claimed_over : Listed → Data → Result ℤ Fault
claimed_over listed claim = over_at listed.limits.claimed_over (member_place Over) (get (codes "over") claim)

-- the claim's trades that are on
unfoldable pub claimed_on : List (List ℕ) → Data → Result ℕ Fault
claimed_on trades claim = do
  references ← list_at (member_place On) (get (codes "on") claim)
  each (one_on trades (member_place On)) 0 references

-- the claim's prices, one for each trade
unfoldable pub claimed_prices : Listed → Data → Result (List ℤ) Fault
claimed_prices listed claim = do
  entries ← list_at (member_place Prices) (get (codes "prices") claim)
  prices_of listed.names.trades (member_place Prices) listed.limits.number entries

-- a node: null, or a trade, which earlier nodes may name too
abbrev pub node_or_null : List (List ℕ) → List PlaceStep → Data → Result (Option ℕ) Fault
node_or_null trades place value = unless_null (trade_at trades place) value

-- one more node; its index is the count of those before it
unfoldable pub one_node : List (List ℕ) → List (Option ℕ) → Data → Result (List (Option ℕ)) Fault
one_node trades nodes value = do
  node ← node_or_null trades (member_place Nodes ++ Index (length nodes) ∷ []) value
  Ok (nodes ++ node ∷ [])

-- the claim's nodes, not too few and at most as many as the document's limit
unfoldable pub claimed_nodes : Listed → Data → Result (List (Option ℕ)) Fault
claimed_nodes listed claim = do
  values ← few_at listed.limits.nodes (member_place Nodes) (get (codes "nodes") claim)
  enough ← holds Limit (member_place Nodes) (nat_le least_nodes (items_len values))
  each (one_node listed.names.trades) [] values

-- the contracts of the entries so far, in their order, and the trades that these are on
pub record Offered : Type 0 where
  pub named : ℕ
  pub contracts : List Contract

unfoldable pub one_offer : List (List ℕ) → List PlaceStep → ℕ → Offered → Data → Result Offered Fault
one_offer trades place limit offered entry = do
  next ← price_of trades place limit offered.named entry
  Ok (record {
    named = toggle offered.named next.0;
    contracts =
        offered.contracts ++ record { trade = next.0; price = next.1 } ∷ [];
  })

abbrev pub no_offers : Offered
no_offers = record { named = 0; contracts = [] }

-- the claim's contracts, in the order of the list
unfoldable pub claimed_contracts : Listed → Data → Result (List Contract) Fault
claimed_contracts listed claim = do
  entries ← list_at (member_place Contracts) (get (codes "contracts") claim)
  offered ← each (one_offer listed.names.trades (member_place Contracts) listed.limits.number) no_offers entries
  Ok offered.contracts
