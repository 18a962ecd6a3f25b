-- The claims that answers are read as.
use Rattle.std.proofs.Common.{◌≡◌, ℕ, ◌<◌, ◌≤◌, ◌^◌, ℤ, pos, true, List, [], map, length, slice_get, Option, Some, None, Ok, refl, sym, subst, ◌∙◌, arith}
use Rattle.std.specs.Prelude.{codes, All, IfSome, ◌≤ℤ◌, nat_le, option_map}
use Rattle.std.proofs.lemmas.List.{length-map}
use Rattle.std.proofs.lemmas.Option.{slice_get_within}
use Rattle.serde_json.specs.Data.{Data}
use Rattle.serde_json.specs.Events.{items_len}
use Rattle.serde_json.specs.Find.{get}
use Rattle.serde_json.specs.View.{items_of}
use Rattle.tn_base.specs.Arcs.{IsAtMost}
use Rattle.tn_base.specs.Firm.{Firm}
use Rattle.tn_base.specs.Sets.{has, set_of}
use Rattle.tn_model.specs.Limits.{AreLimits, least_nodes, most_number}
use Rattle.tn_said.specs.Claim.{on_market, on_firms}
use Rattle.tn_said.specs.declared.claim.MarketClaim.TheVariants.{Equilibrium, Better, Impossible, Supported, Cycle, Solved, Drops, Completes, Blocks}
use Rattle.tn_said.specs.declared.claim.FirmClaim.TheVariants.{Accepted, ExchangeFails}
use Rattle.tn_model.specs.declared.contract.Contract.{Contract}
use Rattle.tn_model.specs.declared.contract.Outcome.{Outcome}
use Rattle.tn_said.specs.declared.place.Word.{Word}
use Rattle.tn_said.specs.declared.place.Word.TheVariants.{At, Bundle, Contracts, Cost, Firm as FirmWord, Gain, Keeps, On, Over, Prices, Surplus, X, Y}
use Rattle.tn_said.specs.declared.said.Said.TheVariants as Said
use Rattle.tn_model.specs.Network.{own, trades_of, trades_on}
use Rattle.tn_names.specs.Names.{IsNameList}
use Rattle.tn_read_shapes.specs.Claims.{allows_in_claim}
use Rattle.tn_read_shapes.specs.Members.{allows}
use Rattle.tn_read_shapes.specs.Shapes.{few_at, object_of}
use Rattle.tn_read_references.specs.Ordered.{Listed}
use Rattle.tn_read_parts.specs.Arranged.{Arranged, arrangement_of, trades_on_of}
use Rattle.tn_read_parts.specs.Signed.{outcome_of, over_at}
use Rattle.tn_read_claims.specs.Claimed.{accepted_of, better_of, blocks_of, claim_of, completes_of, cycle_of, drops_of, equilibrium_of, failure_of, impossible_of, kind_of, named_claim, solved_of, supported_of}
use Rattle.tn_read_claims.specs.Members.{claimed_contracts, claimed_nodes, claimed_number, claimed_on, claimed_prices, gain_or_null, member_place}
use Rattle.tn_answer.specs.AnswerText.{answer_data, contracts_data, nodes_data, prices_data}
use Rattle.tn_answer.specs.Values.{bound_data, integer_data, names_data, option_data}
use Rattle.tn_replay_laws.proofs.EntryLemmas.{contracts_back, prices_back}
use Rattle.tn_replay_laws.proofs.ListLemmas.{AreRead, at_back, bundle_back, each_node_back, items_len-of, set_back}
use Rattle.tn_replay_laws.proofs.NameLemmas.{firm_back, number_back, over_back}

-- ---- members

module _ (names : List (List ℕ)) (are : IsNameList names) (value : Data) where
  pub on_back : (x : ℕ) → get (codes "on") value ≡ Some (names_data names (trades_on x (length names)))
      → claimed_on names value ≡ Ok (set_of (has x) (length names))
  unfolding claimed_on
  on_back x there = rw (there, set_back names are (member_place On) x)

module _ (listed : Listed) (limits : AreLimits listed.limits) where
  -- the limits of claims are short
  short : listed.limits.number < 2 ^ 63
  short = let same = limits.number in omega (arith, same)

  short_over : listed.limits.claimed_over < 2 ^ 63
  short_over = let most = limits.claimed_over in omega (arith, most)

  -- what is within the limits of claims is within those of the document
  small_number : (z : ℤ) → IsAtMost z most_number → IsAtMost z listed.limits.number
  small_number z small = subst (IsAtMost z) (sym limits.number) small

  claimed_number_back : (word : Word) (z : ℤ) → IsAtMost z most_number
      → claimed_number listed word (Some (integer_data z)) ≡ Ok z
  claimed_number_back word z small = number_back listed.limits.number (member_place word) z short (small_number z small)

  gain_back : (gain : Option ℤ) → IfSome gain (λ z. IsAtMost z most_number)
      → gain_or_null listed (Some (bound_data gain)) ≡ Ok gain
  gain_back None small = refl
  gain_back (Some z) small = rw (number_back listed.limits.number (member_place Gain) z short (small_number z small))

  claimed_over_back : (z : ℤ) → pos 1 ≤ℤ z → z ≤ℤ pos listed.limits.claimed_over
      → over_at listed.limits.claimed_over (member_place Over) (Some (integer_data z)) ≡ Ok z
  claimed_over_back z least most =
      over_back listed.limits.claimed_over (member_place Over) z short_over least most

module _ (listed : Listed) (limits : AreLimits listed.limits) (are : IsNameList listed.names.trades)
    (value : Data) where
  pub nodes_back : (nodes : List (Option ℕ)) → All (λ node. IfSome node (λ t. t < length listed.names.trades)) nodes
      → least_nodes ≤ length nodes → length nodes ≤ listed.limits.nodes
      → get (codes "nodes") value ≡ Some (nodes_data listed.names.trades nodes) → claimed_nodes listed value ≡ Ok nodes
  unfolding claimed_nodes few_at
  nodes_back nodes known least most there =
      let names = listed.names.trades in
      let count : items_len (items_of (map (option_data names) nodes)) ≡ length nodes =
      items_len-of (map (option_data names) nodes) ∙ length-map nodes (option_data names) in
      let few : nat_le (items_len (items_of (map (option_data names) nodes))) listed.limits.nodes ≡ true =
      grind (arith, count, most) in
      let enough : nat_le least_nodes (items_len (items_of (map (option_data names) nodes))) ≡ true =
      grind (arith, count, least) in
      rw (there, few, enough, each_node_back names are [] nodes known)

  pub claimed_prices_back : (prices : List ℤ) → length prices ≡ length listed.names.trades
      → All (λ z. IsAtMost z most_number) prices → get (codes "prices") value
      ≡ Some (prices_data listed.names.trades prices)
      → claimed_prices listed value ≡ Ok prices
  unfolding claimed_prices
  claimed_prices_back prices counted small there =
      let kept = subst (λ limit. All (λ z. IsAtMost z limit) prices) (sym limits.number) small in
      rw (
        there,
        prices_back listed.names.trades are (member_place Prices) listed.limits.number (short listed limits)
            prices counted kept,
      )

  pub claimed_contracts_back : (contracts : List Contract)
      → ((k : ℕ) (contract : Contract) → slice_get contracts k ≡ Some contract
      → contract.trade < length listed.names.trades)
      → ((j k : ℕ) (one other : Contract) → slice_get contracts j ≡ Some one → slice_get contracts k ≡ Some other
      → one.trade ≡ other.trade → j ≡ k) → All (λ contract. IsAtMost contract.price most_number) contracts
      → get (codes "contracts") value ≡ Some (contracts_data listed.names.trades contracts)
      → claimed_contracts listed value ≡ Ok contracts
  unfolding claimed_contracts
  claimed_contracts_back contracts known once small there =
      let kept = subst (λ limit. All (λ (contract : Contract). IsAtMost contract.price limit) contracts)
      (sym limits.number) small in
      let read = contracts_back listed.names.trades are (member_place Contracts) listed.limits.number
      (short listed limits) contracts known once kept in
      rw (there, read.1)

-- ---- claims

-- what is put into a document as its claim is there, beside the part that it speaks of
module _ (listed : Listed) (firms : List Firm) (are : AreRead listed firms) (top : Data) where
  abbrev names : List (List ℕ)
  names = listed.names.trades

  pub equilibrium_back : (at : Arranged) (surplus : ℤ)
      → get (codes "claim") top ≡ Some (answer_data listed.names (Said.Equilibrium surplus))
      → arrangement_of listed top ≡ Ok at → IsAtMost surplus most_number
      → claim_of listed top ≡ Ok (on_market (Equilibrium (record { on = at.on; prices = at.prices }) surplus))
  unfolding claim_of named_claim kind_of equilibrium_of object_of allows allows_in_claim
  equilibrium_back at surplus there part small = rw (
    there,
    part,
    claimed_number_back listed are.limits Surplus surplus small,
  )

  pub better_back : (at : Arranged) (f : ℕ) (firm : Firm) (x : ℕ) (gain : ℤ) → slice_get firms f ≡ Some firm
      → x < 2 ^ firm.count
      → get (codes "claim") top
      ≡ Some (answer_data listed.names (Said.Better f (trades_of listed.ends f firm.count x) gain))
      → arrangement_of listed top ≡ Ok at → IsAtMost gain most_number
      → claim_of listed top ≡ Ok (on_market (Better (record { on = at.on; prices = at.prices }) f x gain))
  unfolding claim_of named_claim kind_of better_of object_of allows allows_in_claim
  better_back at f firm x gain is below there part small =
      let inside : f < length listed.names.firms = let within = slice_get_within firms f firm is in let counted =
      are.firms_named in omega (arith, within, counted) in
      rw (
        there,
        part,
        firm_back listed.names.firms are.firm_names (member_place FirmWord) f inside,
        bundle_back listed firms are f firm is (member_place Bundle) x below,
        claimed_number_back listed are.limits Gain gain small,
      )

  pub impossible_back : (on f : ℕ) → f < length firms
      → get (codes "claim") top ≡ Some (answer_data listed.names (Said.Impossible f)) → trades_on_of names top ≡ Ok on
      → claim_of listed top ≡ Ok (on_market (Impossible on f))
  unfolding claim_of named_claim kind_of impossible_of object_of allows allows_in_claim
  impossible_back on f below there part =
      let inside : f < length listed.names.firms = let counted = are.firms_named in omega (arith, below, counted) in
      rw (there, part, firm_back listed.names.firms are.firm_names (member_place FirmWord) f inside)

  pub accepted_back : get (codes "claim") top ≡ Some (answer_data listed.names Said.Accepted)
      → claim_of listed top ≡ Ok (on_firms Accepted)
  unfolding claim_of named_claim kind_of accepted_of object_of allows allows_in_claim
  accepted_back there = rw there

  pub failure_back : (f : ℕ) (firm : Firm) (x y : ℕ) (at : Option ℕ) → slice_get firms f ≡ Some firm
      → x < 2 ^ firm.count → y < 2 ^ firm.count → IfSome at (λ k. k < firm.count)
      → get (codes "claim") top
      ≡ Some (answer_data listed.names (Said.ExchangeFails f (trades_of listed.ends f firm.count x)
      (trades_of listed.ends f firm.count y) (option_map (own listed.ends f) at)))
      → claim_of listed top ≡ Ok (on_firms (ExchangeFails f x y at))
  unfolding claim_of named_claim kind_of failure_of object_of allows allows_in_claim
  failure_back f firm x y at is below_x below_y within there =
      let inside : f < length listed.names.firms = let here = slice_get_within firms f firm is in let counted =
      are.firms_named in omega (arith, here, counted) in
      rw (
        there,
        firm_back listed.names.firms are.firm_names (member_place FirmWord) f inside,
        at_back listed firms are f firm is (member_place At) at within,
        bundle_back listed firms are f firm is (member_place X) x below_x,
        bundle_back listed firms are f firm is (member_place Y) y below_y,
      )

  pub supported_back : (on : ℕ) (prices : List ℤ) → length prices ≡ length names
      → All (λ z. IsAtMost z most_number) prices
      → get (codes "claim") top ≡ Some (answer_data listed.names (Said.Supported [] prices []))
      → trades_on_of names top ≡ Ok on → claim_of listed top ≡ Ok (on_market (Supported on prices))
  unfolding claim_of named_claim kind_of supported_of object_of allows allows_in_claim
  supported_back on prices counted small there part =
      rw (
        there,
        part,
        claimed_prices_back listed are.limits are.trade_names
            (answer_data listed.names (Said.Supported [] prices [])) prices counted small refl,
      )

  pub cycle_back : (on : ℕ) (nodes : List (Option ℕ)) (cost : ℤ)
      → All (λ node. IfSome node (λ t. t < length names)) nodes → least_nodes ≤ length nodes
      → length nodes ≤ listed.limits.nodes → IsAtMost cost most_number
      → get (codes "claim") top ≡ Some (answer_data listed.names (Said.Cycle nodes cost))
      → trades_on_of names top ≡ Ok on → claim_of listed top ≡ Ok (on_market (Cycle on nodes cost))
  unfolding claim_of named_claim kind_of cycle_of object_of allows allows_in_claim
  cycle_back on nodes cost known least most small there part =
      rw (
        there,
        part,
        claimed_number_back listed are.limits Cost cost small,
        nodes_back listed are.limits are.trade_names (answer_data listed.names (Said.Cycle nodes cost)) nodes known
            least most refl,
      )

  pub solved_back : (x : ℕ) (prices : List ℤ) (surplus : ℤ) → length prices ≡ length names
      → All (λ z. IsAtMost z most_number) prices → IsAtMost surplus most_number
      → get (codes "claim") top
      ≡ Some (answer_data listed.names (Said.Solved (trades_on x (length names)) prices surplus []))
      → claim_of listed top ≡ Ok (on_market (Solved (record { on = set_of (has x) (length names); prices = prices }) surplus))
  unfolding claim_of named_claim kind_of solved_of object_of allows allows_in_claim
  solved_back x prices surplus counted small_prices small there =
      let value = answer_data listed.names (Said.Solved (trades_on x (length names)) prices surplus []) in
      rw (
        there,
        on_back names are.trade_names value x refl,
        claimed_prices_back listed are.limits are.trade_names value prices counted small_prices refl,
        claimed_number_back listed are.limits Surplus surplus small,
      )

  pub drops_back : (outcome : Outcome) (f : ℕ) (firm : Firm) (keeps : ℕ) (gain : Option ℤ) (over : ℤ)
      → slice_get firms f ≡ Some firm → keeps < 2 ^ firm.count
      → IfSome gain (λ z. IsAtMost z most_number) → pos 1 ≤ℤ over → over ≤ℤ pos listed.limits.claimed_over
      → get (codes "claim") top
      ≡ Some (answer_data listed.names (Said.Drops f (trades_of listed.ends f firm.count keeps) gain over))
      → outcome_of listed top ≡ Ok outcome
      → claim_of listed top ≡ Ok (on_market (Drops outcome f keeps gain over))
  unfolding claim_of named_claim kind_of drops_of object_of allows allows_in_claim
  drops_back outcome f firm keeps gain over is below small least most there part =
      let inside : f < length listed.names.firms = let here = slice_get_within firms f firm is in let counted =
      are.firms_named in omega (arith, here, counted) in
      rw (
        there,
        part,
        firm_back listed.names.firms are.firm_names (member_place FirmWord) f inside,
        gain_back listed are.limits gain small,
        bundle_back listed firms are f firm is (member_place Keeps) keeps below,
        claimed_over_back listed are.limits over least most,
      )

  pub completes_back : (outcome : Outcome) (prices : List ℤ) (over : ℤ) → length prices ≡ length names
      → All (λ z. IsAtMost z most_number) prices → pos 1 ≤ℤ over → over ≤ℤ pos listed.limits.claimed_over
      → get (codes "claim") top ≡ Some (answer_data listed.names (Said.Completes prices over))
      → outcome_of listed top ≡ Ok outcome → claim_of listed top ≡ Ok (on_market (Completes outcome prices over))
  unfolding claim_of named_claim kind_of completes_of object_of allows allows_in_claim
  completes_back outcome prices over counted small least most there part =
      rw (
        there,
        part,
        claimed_over_back listed are.limits over least most,
        claimed_prices_back listed are.limits are.trade_names (answer_data listed.names (Said.Completes prices over))
            prices counted small refl,
      )

  pub blocks_back : (outcome : Outcome) (contracts : List Contract) (over : ℤ)
      → ((k : ℕ) (contract : Contract) → slice_get contracts k ≡ Some contract → contract.trade < length names)
      → ((j k : ℕ) (one other : Contract) → slice_get contracts j ≡ Some one → slice_get contracts k ≡ Some other
      → one.trade ≡ other.trade → j ≡ k) → All (λ contract. IsAtMost contract.price most_number) contracts
      → pos 1 ≤ℤ over → over ≤ℤ pos listed.limits.claimed_over
      → get (codes "claim") top ≡ Some (answer_data listed.names (Said.Blocks contracts over))
      → outcome_of listed top ≡ Ok outcome → claim_of listed top ≡ Ok (on_market (Blocks outcome contracts over))
  unfolding claim_of named_claim kind_of blocks_of object_of allows allows_in_claim
  blocks_back outcome contracts over known once small least most there part =
      rw (
        there,
        part,
        claimed_contracts_back listed are.limits are.trade_names
            (answer_data listed.names (Said.Blocks contracts over)) contracts known once small refl,
        claimed_over_back listed are.limits over least most,
      )
