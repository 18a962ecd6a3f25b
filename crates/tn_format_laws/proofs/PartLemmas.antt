-- The parts beside a network, and claims, read within two records of limits, of values that are the same but for the
-- version.
use Rattle.std.proofs.Common.{◌≡◌, ℕ, pos, List, false, Result, refl}
use Rattle.std.specs.Prelude.{[], ◌∷◌, ◌&&◌, codes, length, int_le, Option, None, Some, replicate}
use Rattle.std.specs.Str.{bytes_eq}
use Rattle.serde_json.specs.Data.{Data, Items, array, boolean, null, number, object, string}
use Rattle.serde_json.specs.Find.{get}
use Rattle.tn_model.specs.declared.ends.Ends.{Ends}
use Rattle.tn_model.specs.declared.limits.Limits.{Limits}
use Rattle.tn_names.specs.Names.{NameLists}
use Rattle.tn_said.specs.declared.fault.FaultKind.TheVariants.{Shape}
use Rattle.tn_said.specs.declared.part.Part.{Part}
use Rattle.tn_said.specs.declared.place.PlaceStep.{PlaceStep}
use Rattle.tn_said.specs.declared.place.PlaceStep.TheVariants.{Key}
use Rattle.tn_said.specs.declared.place.Word.TheVariants.{At, Bundle, Contracts, Cost, Edits as EditsWord, Gain, Keeps, Nodes, Over, Prices, Surplus, X, Y}
use Rattle.tn_said.specs.declared.said.Fault.{Fault}
use Rattle.tn_read_shapes.specs.declared.claims.ClaimKind.{ClaimKind}
use Rattle.tn_read_shapes.specs.declared.claims.ClaimKind.TheVariants.{OnMarket, OnFirms}
use Rattle.tn_read_shapes.specs.declared.claims.FirmClaimKind.{FirmClaimKind}
use Rattle.tn_read_shapes.specs.declared.claims.FirmClaimKind.TheVariants.{Accepted as AcceptedKind, ExchangeFails as ExchangeFailsKind, NoPrices as NoPricesKind}
use Rattle.tn_read_shapes.specs.declared.claims.MarketClaimKind.{MarketClaimKind}
use Rattle.tn_read_shapes.specs.declared.claims.MarketClaimKind.TheVariants.{Equilibrium as EquilibriumKind, Better as BetterKind, Impossible as ImpossibleKind, Supported as SupportedKind, Cycle as CycleKind, Solved as SolvedKind, Drops as DropsKind, Completes as CompletesKind, Blocks as BlocksKind}
use Rattle.tn_read_shapes.specs.declared.members.ObjectKind.TheVariants.{Outcome as OutcomeObject}
use Rattle.tn_read_shapes.specs.Reading.{wanted}
use Rattle.tn_read_shapes.specs.Shapes.{list_at, object_of, three_at, whole_at}
use Rattle.tn_read_references.specs.Entries.{Numbered}
use Rattle.tn_read_references.specs.Ordered.{Listed}
use Rattle.tn_read_references.specs.References.{new_trade}
use Rattle.tn_read_parts.specs.Arranged.{arrangement_of, on_of, prices_place, trades_on_of}
use Rattle.tn_read_parts.specs.Edited.{edits_of}
use Rattle.tn_read_parts.specs.Lists.{contracts_at, named_prices, one_price, prices_of}
use Rattle.tn_read_parts.specs.Signed.{contracts_place, outcome_of, outcome_place, over_place}
use Rattle.tn_read_claims.specs.Claimed.{better_of, blocks_of, claim_by, claim_of, completes_of, cycle_of, drops_of, equilibrium_of, failure_of, firm_claim_by, frame_of, impossible_of, market_claim_by, named_claim, no_prices_of, solved_of, supported_of}
use Rattle.tn_read_claims.specs.Members.{Offered, claimed_contracts, claimed_firm, claimed_nodes, claimed_on, claimed_over, claimed_prices, gain_or_null, member_place, no_offers, one_offer, own_or_null, unless_null}
use Rattle.tn_read_claims.specs.Planned.{claimed_plan, in_part, one_part, part_at, part_of, plan_weight_at}
use Rattle.tn_format_laws.proofs.MeetLemmas.{Agree, after, all, equal, few_agree, next, number_agrees, over_agrees, range_agrees, same}
use Rattle.tn_format_laws.proofs.ReferenceLemmas as references

-- ---- lists of entries

one_price_agrees : (trades : List (List ℕ)) (place : List PlaceStep) (m n : ℕ) (priced : Numbered) (entry : Data)
    → Agree (one_price trades place m priced entry) (one_price trades place n priced entry)
one_price_agrees trades place m n priced entry =
    references.one_entry_agrees (new_trade trades) (new_trade trades) m n (λ at named d. same _) place priced entry

named_agree : (trades : List (List ℕ)) (place : List PlaceStep) (m n : ℕ) (entries : Items)
    → Agree (named_prices trades place m entries) (named_prices trades place n entries)
unfolding named_prices
named_agree trades place m n entries =
    all (one_price trades place m) (one_price trades place n) (one_price_agrees trades place m n)
    (record { named = 0; numbers = replicate (length trades) (pos 0) }) entries

prices_agree : (trades : List (List ℕ)) (place : List PlaceStep) (m n : ℕ) (entries : Items)
    → Agree (prices_of trades place m entries) (prices_of trades place n entries)
unfolding prices_of
prices_agree trades place m n entries = next _ _ _ _ (named_agree trades place m n entries) (λ priced. same _)

contracts_agree : (trades : List (List ℕ)) (place : List PlaceStep) (m n : ℕ) (entries : Items)
    → Agree (contracts_at trades place m entries) (contracts_at trades place n entries)
unfolding contracts_at
contracts_agree trades place m n entries = next _ _ _ _ (named_agree trades place m n entries) (λ priced. same _)

offer_agrees : (trades : List (List ℕ)) (place : List PlaceStep) (m n : ℕ) (offered : Offered) (entry : Data)
    → Agree (one_offer trades place m offered entry) (one_offer trades place n offered entry)
unfolding one_offer
offer_agrees trades place m n offered entry =
    next _ _ _ _ (references.entry_agrees (new_trade trades) (new_trade trades) m n (λ at named d. same _) place
    offered.named entry) (λ found. same _)

-- ---- values or null

null_agrees : {A : Type 0} (read other : Data → Result A Fault) → ((d : Data) → Agree (read d) (other d)) → (d : Data)
    → Agree (unless_null read d) (unless_null other d)
null_agrees read other agree null = same _
null_agrees read other agree (boolean t) = next _ _ _ _ (agree (boolean t)) (λ found. same _)
null_agrees read other agree (number n) = next _ _ _ _ (agree (number n)) (λ found. same _)
null_agrees read other agree (string s) = next _ _ _ _ (agree (string s)) (λ found. same _)
null_agrees read other agree (array ds) = next _ _ _ _ (agree (array ds)) (λ found. same _)
null_agrees read other agree (object ms) = next _ _ _ _ (agree (object ms)) (λ found. same _)

module _ (names : NameLists) (ends : List Ends) (a b : Limits) where
  abbrev here : Listed
  here = references.here names ends a b

  abbrev there : Listed
  there = references.there names ends a b

  -- ---- members of a claim

  gain_agrees : (value : Option Data) → Agree (gain_or_null here value) (gain_or_null there value)
  gain_agrees value =
      after (wanted Shape (member_place Gain) value) _ _ (λ gain.
      null_agrees _ _ (λ d. number_agrees a.number b.number (member_place Gain) (Some d)) gain)

  own_agrees : (f : ℕ) (place : List PlaceStep) (value : Option Data)
      → Agree (own_or_null here f place value) (own_or_null there f place value)
  own_agrees f place value =
      after (wanted Shape place value) _ _ (λ trade.
      null_agrees _ _ (references.position_agrees names ends a b f None place) trade)

  denominator_agrees : (claim : Data) → Agree (claimed_over here claim) (claimed_over there claim)
  denominator_agrees claim =
      over_agrees a.claimed_over b.claimed_over (member_place Over) (get (codes "over") claim)

  claimed_agree : (claim : Data) → Agree (claimed_prices here claim) (claimed_prices there claim)
  unfolding claimed_prices
  claimed_agree claim =
      after (list_at (member_place Prices) (get (codes "prices") claim)) _ _ (λ entries.
      prices_agree names.trades (member_place Prices) a.number b.number entries)

  nodes_agree : (claim : Data) → Agree (claimed_nodes here claim) (claimed_nodes there claim)
  unfolding claimed_nodes
  nodes_agree claim =
      next _ _ _ _ (few_agree a.nodes b.nodes (member_place Nodes) (get (codes "nodes") claim) _ refl)
      (λ values. same _)

  offers_agree : (claim : Data) → Agree (claimed_contracts here claim) (claimed_contracts there claim)
  unfolding claimed_contracts
  offers_agree claim =
      after (list_at (member_place Contracts) (get (codes "contracts") claim)) _ _ (λ entries.
      next _ _ _ _ (all (one_offer names.trades (member_place Contracts) a.number)
      (one_offer names.trades (member_place Contracts) b.number)
      (offer_agrees names.trades (member_place Contracts) a.number b.number) no_offers entries) (λ offered. same _))

  weight_agrees : (place : List PlaceStep) (value : Data)
      → Agree (plan_weight_at here place value) (plan_weight_at there place value)
  unfolding plan_weight_at
  weight_agrees place value =
      after (whole_at place (Some value)) _ _ (λ weight.
      next _ _ _ _ (range_agrees place (int_le (pos 1) weight && int_le weight (pos a.claimed_over))
      (int_le (pos 1) weight && int_le weight (pos b.claimed_over))) (λ within. same _))

  part_agrees : (k : ℕ) (entry : Data) → Agree (part_of here k entry) (part_of there k entry)
  unfolding part_of
  part_agrees k entry =
      after (three_at (part_at k) entry) _ _ (λ three.
      after _ _ _ (λ firm.
      next _ _ _ _ (references.bundle_agrees names ends a b firm (in_part k 1) (Some three.1)) (λ bundle.
      next _ _ _ _ (weight_agrees (in_part k 2) three.2) (λ weight. same _))))

  one_part_agrees : (parts : List Part) (entry : Data) → Agree (one_part here parts entry) (one_part there parts entry)
  unfolding one_part
  one_part_agrees parts entry = next _ _ _ _ (part_agrees (length parts) entry) (λ part. same _)

  plan_agrees : (claim : Data) → Agree (claimed_plan here claim) (claimed_plan there claim)
  unfolding claimed_plan
  plan_agrees claim =
      after _ _ _ (λ entries.
      all (one_part here) (one_part there) one_part_agrees [] entries)

  -- ---- of two values that are the same but for the version

  module _ (top other : Data) (alike : (key : List ℕ) → bytes_eq key (codes "version") ≡ false
      → get key top ≡ get key other) where
    on_alike : on_of names.trades top ≡ on_of names.trades other
    unfolding on_of
    on_alike = rw (alike (codes "arrangement") refl)

    pub on_agrees : Agree (trades_on_of names.trades top) (trades_on_of names.trades other)
    unfolding trades_on_of
    on_agrees = next _ _ _ _ (equal _ _ on_alike) (λ part. same _)

    pub arrangement_agrees : Agree (arrangement_of here top) (arrangement_of there other)
    unfolding arrangement_of
    arrangement_agrees =
        next _ _ _ _ (equal _ _ on_alike) (λ part.
        after (list_at prices_place (get (codes "prices") part.0)) _ _ (λ entries.
        next _ _ _ _ (prices_agree names.trades prices_place a.price b.price entries) (λ prices. same _)))

    part_alike : wanted Shape outcome_place (get (codes "outcome") top)
        ≡ wanted Shape outcome_place (get (codes "outcome") other)
    part_alike = rw (alike (codes "outcome") refl)

    pub outcome_agrees : Agree (outcome_of here top) (outcome_of there other)
    unfolding outcome_of
    outcome_agrees =
        next _ _ _ _ (equal _ _ part_alike) (λ part.
        after (object_of OutcomeObject outcome_place (Some part)) _ _ (λ object.
        next _ _ _ _ (over_agrees a.over b.over over_place (get (codes "over") part)) (λ over.
        after (list_at contracts_place (get (codes "contracts") part)) _ _ (λ entries.
        next _ _ _ _ (contracts_agree names.trades contracts_place a.numerator b.numerator entries)
        (λ contracts. same _)))))

    pub edits_agree : Agree (edits_of here top) (edits_of there other)
    unfolding edits_of
    edits_agree =
        next _ _ _ _ (few_agree a.edits b.edits (Key EditsWord ∷ []) (get (codes "edits") top)
        (get (codes "edits") other) (alike (codes "edits") refl)) (λ entries. same _)

    -- ---- claims

    module _ (claim : Data) where
      equilibrium_agrees : Agree (equilibrium_of here top claim) (equilibrium_of there other claim)
      unfolding equilibrium_of
      equilibrium_agrees =
          next _ _ _ _ arrangement_agrees (λ at.
          after (frame_of (OnMarket EquilibriumKind) claim) _ _ (λ frame.
          next _ _ _ _ (number_agrees a.number b.number (member_place Surplus) (get (codes "surplus") claim))
          (λ surplus. same _)))

      better_agrees : Agree (better_of here top claim) (better_of there other claim)
      unfolding better_of
      better_agrees =
          next _ _ _ _ arrangement_agrees (λ at.
          after (frame_of (OnMarket BetterKind) claim) _ _ (λ frame.
          after (claimed_firm names.firms claim) _ _ (λ firm.
          next _ _ _ _ (references.bundle_agrees names ends a b firm (member_place Bundle) (get (codes "bundle") claim))
          (λ bundle.
          next _ _ _ _ (number_agrees a.number b.number (member_place Gain) (get (codes "gain") claim))
          (λ gain. same _)))))

      impossible_agrees : Agree (impossible_of here top claim) (impossible_of there other claim)
      unfolding impossible_of
      impossible_agrees = next _ _ _ _ on_agrees (λ on. same _)

      failure_agrees : Agree (failure_of here claim) (failure_of there claim)
      unfolding failure_of
      failure_agrees =
          after (frame_of (OnFirms ExchangeFailsKind) claim) _ _ (λ frame.
          after (claimed_firm names.firms claim) _ _ (λ firm.
          next _ _ _ _ (own_agrees firm (member_place At) (get (codes "at") claim)) (λ at.
          next _ _ _ _ (references.bundle_agrees names ends a b firm (member_place X) (get (codes "x") claim)) (λ x.
          next _ _ _ _ (references.bundle_agrees names ends a b firm (member_place Y) (get (codes "y") claim))
          (λ y. same _)))))

      supported_agrees : Agree (supported_of here top claim) (supported_of there other claim)
      unfolding supported_of
      supported_agrees =
          next _ _ _ _ on_agrees (λ on.
          after (frame_of (OnMarket SupportedKind) claim) _ _ (λ frame.
          next _ _ _ _ (claimed_agree claim) (λ prices. same _)))

      cycle_agrees : Agree (cycle_of here top claim) (cycle_of there other claim)
      unfolding cycle_of
      cycle_agrees =
          next _ _ _ _ on_agrees (λ on.
          after (frame_of (OnMarket CycleKind) claim) _ _ (λ frame.
          next _ _ _ _ (number_agrees a.number b.number (member_place Cost) (get (codes "cost") claim)) (λ cost.
          next _ _ _ _ (nodes_agree claim) (λ nodes. same _))))

      solved_agrees : Agree (solved_of here claim) (solved_of there claim)
      unfolding solved_of
      solved_agrees =
          after (frame_of (OnMarket SolvedKind) claim) _ _ (λ frame.
          after (claimed_on names.trades claim) _ _ (λ on.
          next _ _ _ _ (claimed_agree claim) (λ prices.
          next _ _ _ _ (number_agrees a.number b.number (member_place Surplus) (get (codes "surplus") claim))
          (λ surplus. same _))))

      drops_agrees : Agree (drops_of here top claim) (drops_of there other claim)
      unfolding drops_of
      drops_agrees =
          next _ _ _ _ outcome_agrees (λ outcome.
          after (frame_of (OnMarket DropsKind) claim) _ _ (λ frame.
          after (claimed_firm names.firms claim) _ _ (λ firm.
          next _ _ _ _ (gain_agrees (get (codes "gain") claim)) (λ gain.
          next _ _ _ _ (references.bundle_agrees names ends a b firm (member_place Keeps) (get (codes "keeps") claim))
          (λ keeps.
          next _ _ _ _ (denominator_agrees claim) (λ over. same _))))))

      completes_agrees : Agree (completes_of here top claim) (completes_of there other claim)
      unfolding completes_of
      completes_agrees =
          next _ _ _ _ outcome_agrees (λ outcome.
          after (frame_of (OnMarket CompletesKind) claim) _ _ (λ frame.
          next _ _ _ _ (denominator_agrees claim) (λ over.
          next _ _ _ _ (claimed_agree claim) (λ prices. same _))))

      blocks_agrees : Agree (blocks_of here top claim) (blocks_of there other claim)
      unfolding blocks_of
      blocks_agrees =
          next _ _ _ _ outcome_agrees (λ outcome.
          after (frame_of (OnMarket BlocksKind) claim) _ _ (λ frame.
          next _ _ _ _ (offers_agree claim) (λ contracts.
          next _ _ _ _ (denominator_agrees claim) (λ over. same _))))

      no_prices_agrees : Agree (no_prices_of here claim) (no_prices_of there claim)
      unfolding no_prices_of
      no_prices_agrees =
          after _ _ _ (λ few.
          after (frame_of (OnFirms NoPricesKind) claim) _ _ (λ frame.
          next _ _ _ _ (denominator_agrees claim) (λ over.
          next _ _ _ _ (plan_agrees claim) (λ plan. same _))))

      market_kind_agrees : (kind : MarketClaimKind)
          → Agree (market_claim_by here kind top claim) (market_claim_by there kind other claim)
      market_kind_agrees EquilibriumKind = equilibrium_agrees
      market_kind_agrees BetterKind = better_agrees
      market_kind_agrees ImpossibleKind = impossible_agrees
      market_kind_agrees SupportedKind = supported_agrees
      market_kind_agrees CycleKind = cycle_agrees
      market_kind_agrees SolvedKind = solved_agrees
      market_kind_agrees DropsKind = drops_agrees
      market_kind_agrees CompletesKind = completes_agrees
      market_kind_agrees BlocksKind = blocks_agrees

      firm_kind_agrees : (kind : FirmClaimKind)
          → Agree (firm_claim_by here kind claim) (firm_claim_by there kind claim)
      firm_kind_agrees AcceptedKind = same _
      firm_kind_agrees ExchangeFailsKind = failure_agrees
      firm_kind_agrees NoPricesKind = no_prices_agrees

      kind_agrees : (kind : ClaimKind) → Agree (claim_by here kind top claim) (claim_by there kind other claim)
      kind_agrees (OnMarket kind) = next _ _ _ _ (market_kind_agrees kind) (λ read. same _)
      kind_agrees (OnFirms kind) = next _ _ _ _ (firm_kind_agrees kind) (λ read. same _)

    named_alike : named_claim top ≡ named_claim other
    unfolding named_claim
    named_alike = rw (alike (codes "claim") refl)

    pub claim_agrees : Agree (claim_of here top) (claim_of there other)
    unfolding claim_of
    claim_agrees = next _ _ _ _ (equal _ _ named_alike) (λ named. kind_agrees named.1 named.0)
