-- What the members of a claim are that reading gives.
use Rattle.std.proofs.Common.{◌≡◌, ℕ, ◌^◌, ◌+◌, ◌<◌, ◌≤◌, true, false, List, [], ◌∷◌, ◌++◌, length, slice_get, Option, Some, None, Result, Ok, inl, inr, sym, ap, subst, ◌∙◌, arith, true≢false}
use Rattle.std.specs.Prelude.{ℤ, codes, nat_le, not, All, IfSome}
use Rattle.std.proofs.lemmas.Int.{ints}
use Rattle.std.proofs.lemmas.List.{length-append}
use Rattle.std.proofs.lemmas.List.Elements.{All-nil, All-push}
use Rattle.std.proofs.lemmas.Option.{none-some}
use Rattle.serde_json.specs.Data.{Data, null, boolean, number, string, array, object, Items}
use Rattle.serde_json.specs.Events.{items_len}
use Rattle.serde_json.specs.Find.{get}
use Rattle.tn_base.specs.Arcs.{IsAtMost}
use Rattle.tn_base.specs.Sets.{has, size, toggle}
use Rattle.tn_base.proofs.SetLemmas.{has-toggle_other, has-toggle_same}
use Rattle.tn_said.specs.declared.fault.FaultKind.TheVariants.{Limit, Shape}
use Rattle.tn_model.specs.declared.contract.Contract.{Contract}
use Rattle.tn_said.specs.declared.place.PlaceStep.{PlaceStep}
use Rattle.tn_said.specs.declared.place.PlaceStep.TheVariants.{Index}
use Rattle.tn_said.specs.declared.place.Word.{Word as WordIs}
use Rattle.tn_said.specs.declared.place.Word.TheVariants.{Contracts, Gain, Nodes, On, Over, Prices}
use Rattle.tn_said.specs.declared.said.Fault.{Fault}
use Rattle.tn_model.specs.Limits.{AreLimits, least_nodes, most_number}
use Rattle.tn_said.specs.ClaimLimits.{ArePricesWithin, IsNumberWithin, IsOverWithin}
use Rattle.tn_names.proofs.NameLemmas.{push_cases}
use Rattle.tn_read_shapes.specs.Reading.{◌>>=◌, each, holds, wanted}
use Rattle.tn_read_shapes.specs.Shapes.{few_at, list_at, number_at, number_in, two_at}
use Rattle.tn_read_shapes.proofs.LeadLemmas.{Leads, le_from_test, leads_after, leads_as, leads_bind, leads_both, leads_count, leads_each, leads_holds, leads_ok}
use Rattle.tn_read_shapes.proofs.ShapeLeads.{few_lead, number_leads}
use Rattle.tn_read_references.specs.Ordered.{AreTrades, Listed, sides_of}
use Rattle.tn_read_references.specs.References.{new_trade, own_position, trade_at}
use Rattle.tn_read_references.specs.Entries.{entry_of}
use Rattle.tn_read_references.proofs.EntryLeads.{AreNumbers}
use Rattle.tn_read_references.proofs.ReferenceLeads.{new_trade_leads, position_leads, trade_leads}
use Rattle.tn_read_parts.specs.Lists.{price_of, prices_of}
use Rattle.tn_read_parts.specs.Signed.{over_at}
use Rattle.tn_read_parts.proofs.EntryLemmas.{IsNewTrade, new_trade_says}
use Rattle.tn_read_parts.proofs.ListLeads.{IsSetOf, prices_lead, set_leads}
use Rattle.tn_read_parts.proofs.OutcomeLeads.{IsOver, over_leads}
use Rattle.tn_read_claims.specs.Members.{Offered, claimed_contracts, claimed_nodes, claimed_number, claimed_on, claimed_over, claimed_prices, gain_or_null, member_place, no_offers, node_or_null, one_node, one_offer, own_or_null, unless_null}

-- ---- null

module _ {A : Type 0} (P : A → Type 0) (read : Data → Result A Fault) (lead : (value : Data)
    → Leads P (read value)) where
  there_leads : (value : Data) → Leads (λ found. IfSome found P) (read value >>= λ found. Ok (Some found))
  there_leads value =
      leads_bind P (λ found. IfSome found P) (read value) _ (lead value)
      (λ found is. leads_ok (λ found. IfSome found P) (Some found) is)

  pub unless_null_leads : (value : Data) → Leads (λ found. IfSome found P) (unless_null read value)
  unless_null_leads null = leads_ok (λ found. IfSome found P) None tt
  unless_null_leads (boolean b) = there_leads (boolean b)
  unless_null_leads (number n) = there_leads (number n)
  unless_null_leads (string s) = there_leads (string s)
  unless_null_leads (array ds) = there_leads (array ds)
  unless_null_leads (object ms) = there_leads (object ms)

module _ (listed : Listed) (limits : AreLimits listed.limits) where
  -- a number within the document's limit is within that of claims
  number_within : (place : List PlaceStep) (value : Option Data)
      → Leads IsNumberWithin (number_in listed.limits.number place value)
  number_within place value =
      subst (λ limit. Leads (λ z. IsAtMost z limit) (number_in listed.limits.number place value)) limits.number
      (number_leads listed.limits.number place value)

  pub claimed_number_leads : (word : WordIs) (value : Option Data)
      → Leads IsNumberWithin (claimed_number listed word value)
  claimed_number_leads word value = number_within (member_place word) value

  pub gain_leads : (value : Option Data) → Leads (λ gain. IfSome gain IsNumberWithin) (gain_or_null listed value)
  gain_leads value =
      leads_after (λ gain. IfSome gain IsNumberWithin) (wanted Shape (member_place Gain) value) _ (λ gain.
      unless_null_leads IsNumberWithin (number_at listed.limits.number (member_place Gain))
      (λ d. number_within (member_place Gain) (Some d)) gain)

  -- a denominator within the document's limit is within that of claims
  pub over_within : (over : ℤ) → IsOver listed.limits.claimed_over over → IsOverWithin over
  over_within over is = let most = is.most in let room = limits.claimed_over in
      record { least = is.least; most = omega (arith, ints, most, room) }

  pub over_lead : (claim : Data) → Leads IsOverWithin (claimed_over listed claim)
  over_lead claim =
      leads_as (IsOver listed.limits.claimed_over) IsOverWithin
      (over_at listed.limits.claimed_over (member_place Over) (get (codes "over") claim)) over_within
      (over_leads listed.limits.claimed_over (member_place Over) (get (codes "over") claim))

pub at_leads : (listed : Listed) (trades : AreTrades listed) (f : ℕ) (place : List PlaceStep) (value : Option Data)
    → Leads (λ at. IfSome at (λ k. k < length (sides_of listed.ends f))) (own_or_null listed f place value)
at_leads listed trades f place value =
    leads_after (λ at. IfSome at (λ k. k < length (sides_of listed.ends f))) (wanted Shape place value) _ (λ trade.
    unless_null_leads (λ k. k < length (sides_of listed.ends f)) (own_position listed f None place)
    (position_leads listed trades f None place) trade)

-- ---- lists

module _ (trades : List (List ℕ)) where
  pub on_lead : (claim : Data) → Leads (λ on. on < 2 ^ length trades) (claimed_on trades claim)
  unfolding claimed_on
  on_lead claim =
      leads_after (IsSetOf trades (member_place On)) (list_at (member_place On) (get (codes "on") claim)) _
      (λ references.
      set_leads trades (member_place On) references)

  abbrev IsKnown : Option ℕ → Type 0
  IsKnown node = IfSome node (λ t. t < length trades)

  one_node_leads : (nodes : List (Option ℕ)) (value : Data) → All IsKnown nodes
      → Leads (All IsKnown) (one_node trades nodes value)
  unfolding one_node
  one_node_leads nodes value known =
      let place = member_place Nodes ++ Index (length nodes) ∷ [] in
      leads_bind IsKnown (All IsKnown) (node_or_null trades place value) _
      (unless_null_leads (λ t. t < length trades) (trade_at trades place) (trade_leads trades place) value)
      (λ node is.
      leads_ok (All IsKnown) (nodes ++ node ∷ []) (All-push IsKnown nodes node known is))

  pub one_node_counts : (nodes : List (Option ℕ)) (value : Data)
      → Leads (λ next. length next ≡ length nodes + 1) (one_node trades nodes value)
  unfolding one_node
  one_node_counts nodes value =
      leads_after (λ next. length next ≡ length nodes + 1)
      (node_or_null trades (member_place Nodes ++ Index (length nodes) ∷ []) value) _ (λ node.
      leads_ok (λ next. length next ≡ length nodes + 1) (nodes ++ node ∷ []) (length-append nodes (node ∷ [])))

module _ (listed : Listed) where
  -- not too few nodes and at most as many as the document's limit, each of them null or a trade
  pub record AreNodes (nodes : List (Option ℕ)) : Type 0 where
    pub least : least_nodes ≤ length nodes
    pub most : length nodes ≤ listed.limits.nodes
    pub known : All (IsKnown listed.names.trades) nodes

  pub nodes_lead : (claim : Data) → Leads AreNodes (claimed_nodes listed claim)
  unfolding claimed_nodes
  nodes_lead claim =
      let limit = listed.limits.nodes in
      let known = IsKnown listed.names.trades in
      let node = one_node listed.names.trades in
      leads_bind (λ values. items_len values ≤ limit) AreNodes
      (few_at limit (member_place Nodes) (get (codes "nodes") claim)) _
      (few_lead limit (member_place Nodes) (get (codes "nodes") claim)) (λ values few.
      leads_bind (λ _. nat_le least_nodes (items_len values) ≡ true) AreNodes
      (holds Limit (member_place Nodes) (nat_le least_nodes (items_len values))) _
      (leads_holds Limit (member_place Nodes) (nat_le least_nodes (items_len values))) (λ u test.
      let enough = le_from_test least_nodes (items_len values) test in
      leads_as (λ nodes. All known nodes × (length nodes ≡ 0 + items_len values)) AreNodes (each node [] values)
      (λ nodes are. record {
        least = omega (arith, enough, are.1);
        most = omega (arith, few, are.1);
        known =
            are.0;
      })
      (leads_both (All known) (λ nodes. length nodes ≡ 0 + items_len values) (each node [] values)
      (leads_each (All known) node (one_node_leads listed.names.trades) [] values (All-nil known))
      (leads_count length node (one_node_counts listed.names.trades) [] values))))

  pub claimed_prices_lead : AreLimits listed.limits → (claim : Data)
      → Leads (ArePricesWithin (length listed.names.trades) most_number) (claimed_prices listed claim)
  unfolding claimed_prices
  claimed_prices_lead limits claim =
      let trades = listed.names.trades in
      let limit = listed.limits.number in
      leads_after (ArePricesWithin (length trades) most_number)
      (list_at (member_place Prices) (get (codes "prices") claim)) _ (λ entries.
      leads_as (AreNumbers (length trades) limit) (ArePricesWithin (length trades) most_number)
      (prices_of trades (member_place Prices) limit entries)
      (λ prices are. record {
        one_each = are.count;
        small =
            subst (λ most. All (λ price. IsAtMost price most) prices) limits.number are.small;
      })
      (prices_lead trades (member_place Prices) limit entries))

-- ---- contracts

module _ (trades : List (List ℕ)) (place : List PlaceStep) (limit : ℕ) where
  -- a contract on a trade that isn't in a set yet
  record IsNewOffer (named : ℕ) (next : ℕ × ℤ) : Type 0 where
    known : next.0 < length trades
    new : has named next.0 ≡ false
    small : IsAtMost next.1 limit

  abbrev IsNew : ℕ → ℕ → Type 0
  IsNew named t = (t < length trades) × (has named t ≡ false)

  new_leads : (at : List PlaceStep) (named : ℕ) (value : Data) → Leads (IsNew named) (new_trade trades at named value)
  new_leads at named value =
      leads_as (λ t. (t < length trades) × IsNewTrade trades named value t) (IsNew named)
      (new_trade trades at named value) (λ t is. (is.0, is.1.new))
      (leads_both (λ t. t < length trades) (IsNewTrade trades named value) (new_trade trades at named value)
      (new_trade_leads trades at named value) (new_trade_says trades at named value))

  offer_leads : (named : ℕ) (entry : Data) → Leads (IsNewOffer named) (price_of trades place limit named entry)
  unfolding entry_of
  offer_leads named entry =
      leads_after (IsNewOffer named) (two_at (place ++ Index (size named) ∷ []) entry) _ (λ two.
      leads_bind (IsNew named) (IsNewOffer named) (new_trade trades (place ++ Index (size named) ∷ Index 0 ∷ []) named
      two.0) _ (new_leads (place ++ Index (size named) ∷ Index 0 ∷ []) named two.0) (λ t is.
      leads_bind (λ z. IsAtMost z limit) (IsNewOffer named)
      (number_at limit (place ++ Index (size named) ∷ Index 1 ∷ []) two.1) _
      (number_leads limit (place ++ Index (size named) ∷ Index 1 ∷ []) (Some two.1)) (λ z small.
      leads_ok (IsNewOffer named) (t, z) (record { known = is.0; new = is.1; small = small }))))

  -- contracts on different trades, which are those of a set
  pub record AreOffered (offered : Offered) : Type 0 where
    pub known : (k : ℕ) (contract : Contract) → slice_get offered.contracts k ≡ Some contract
        → contract.trade < length trades
    pub named : (k : ℕ) (contract : Contract) → slice_get offered.contracts k ≡ Some contract
        → has offered.named contract.trade ≡ true
    pub once : (j k : ℕ) (one other : Contract) → slice_get offered.contracts j ≡ Some one
        → slice_get offered.contracts k ≡ Some other → one.trade ≡ other.trade → j ≡ k
    pub small : All (λ contract. IsAtMost contract.price limit) offered.contracts

  none_offered : AreOffered no_offers
  none_offered = record {
    known = λ k contract is. absurd (none-some contract is);
    named = λ k contract is. absurd (none-some contract is);
    once = λ j k one other is. absurd (none-some one is);
    small = All-nil (λ (contract : Contract). IsAtMost contract.price limit);
  }

  module _ (offered : Offered) (are : AreOffered offered) (next : ℕ × ℤ) (is : IsNewOffer offered.named next) where
    abbrev last : Contract
    last = record { trade = next.0; price = next.1 }

    abbrev more : List Contract
    more = offered.contracts ++ last ∷ []

    -- no contract before is on the new trade
    apart : (k : ℕ) (contract : Contract) → slice_get offered.contracts k ≡ Some contract → contract.trade ≡ next.0 → ⊥
    apart k contract at same = true≢false (sym (are.named k contract at) ∙ ap (has offered.named) same ∙ is.new)

    more_known : (k : ℕ) (contract : Contract) → slice_get more k ≡ Some contract → contract.trade < length trades
    more_known k contract at = elim (push_cases offered.contracts last contract k at) [
      | inl before ↦ are.known k contract before
      | inr here ↦ subst (λ (c : Contract). c.trade < length trades) here.1 is.known
    ]

    more_named : (k : ℕ) (contract : Contract) → slice_get more k ≡ Some contract
        → has (toggle offered.named next.0) contract.trade ≡ true
    more_named k contract at = elim (push_cases offered.contracts last contract k at) [
      | inl before ↦ has-toggle_other offered.named next.0 contract.trade (apart k contract before)
          ∙ are.named k contract before
      | inr here ↦
          subst (λ (c : Contract). has (toggle offered.named next.0) c.trade ≡ true) here.1
          (has-toggle_same offered.named next.0 ∙ ap not is.new)
    ]

    more_once : (j k : ℕ) (one other : Contract) → slice_get more j ≡ Some one → slice_get more k ≡ Some other
        → one.trade ≡ other.trade → j ≡ k
    more_once j k one other at_j at_k same = elim (push_cases offered.contracts last one j at_j) [
      | inl early ↦ elim (push_cases offered.contracts last other k at_k) [
        | inl before ↦ are.once j k one other early before same
        | inr here ↦ absurd (apart j one early (same ∙ ap (λ (c : Contract). c.trade) (sym here.1)))
      ]
      | inr late ↦ elim (push_cases offered.contracts last other k at_k) [
        | inl before ↦ absurd (apart k other before (sym same ∙ ap (λ (c : Contract). c.trade) (sym late.1)))
        | inr here ↦ late.0 ∙ sym here.0
      ]
    ]

    one_more : AreOffered (record { named = toggle offered.named next.0; contracts = more })
    one_more = record {
      known = more_known;
      named = more_named;
      once = more_once;
      small = All-push (λ (contract : Contract). IsAtMost contract.price limit) offered.contracts last are.small
          is.small;
    }

  one_offer_leads : (offered : Offered) (entry : Data) → AreOffered offered
      → Leads AreOffered (one_offer trades place limit offered entry)
  unfolding one_offer
  one_offer_leads offered entry are =
      leads_bind (IsNewOffer offered.named) AreOffered (price_of trades place limit offered.named entry) _
      (offer_leads offered.named entry) (λ next is.
      leads_ok AreOffered (record {
        named = toggle offered.named next.0;
        contracts =
            offered.contracts ++ record { trade = next.0; price = next.1 } ∷ [];
      }) (one_more offered are next is))

  pub offers_lead : (entries : Items) → Leads AreOffered (each (one_offer trades place limit) no_offers entries)
  offers_lead entries =
      leads_each AreOffered (one_offer trades place limit) one_offer_leads no_offers entries none_offered

pub record AreClaimedContracts (trades : List (List ℕ)) (contracts : List Contract) : Type 0 where
  pub known : (k : ℕ) (contract : Contract) → slice_get contracts k ≡ Some contract → contract.trade < length trades
  pub once : (j k : ℕ) (one other : Contract) → slice_get contracts j ≡ Some one → slice_get contracts k ≡ Some other
      → one.trade ≡ other.trade → j ≡ k
  pub small : All (λ contract. IsNumberWithin contract.price) contracts

pub claimed_contracts_lead : (listed : Listed) → AreLimits listed.limits → (claim : Data)
    → Leads (AreClaimedContracts listed.names.trades) (claimed_contracts listed claim)
unfolding claimed_contracts
claimed_contracts_lead listed limits claim =
    let trades = listed.names.trades in
    let limit = listed.limits.number in
    let place = member_place Contracts in
    leads_after (AreClaimedContracts trades) (list_at place (get (codes "contracts") claim)) _ (λ entries.
    leads_bind (AreOffered trades place limit) (AreClaimedContracts trades)
    (each (one_offer trades place limit) no_offers entries) _ (offers_lead trades place limit entries)
    (λ offered are.
    leads_ok (AreClaimedContracts trades) offered.contracts (record {
      known = are.known;
      once = are.once;
      small =
          subst (λ most. All (λ (contract : Contract). IsAtMost contract.price most) offered.contracts) limits.number
          are.small;
    })))
