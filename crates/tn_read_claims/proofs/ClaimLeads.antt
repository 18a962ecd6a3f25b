-- What the claim is that reading gives: of the kind that its answer names, and within the limits of claims.
use Rattle.std.proofs.Common.{◌≡◌, ℕ, ◌^◌, ◌<◌, List, length, get_or, true, Option, sym, subst, arith}
use Rattle.std.specs.Prelude.{codes, nat_le, All, IfSome}
use Rattle.serde_json.specs.Data.{Data}
use Rattle.serde_json.specs.Find.{get}
use Rattle.tn_said.specs.declared.fault.FaultKind.TheVariants.{Limit}
use Rattle.tn_base.specs.Firm.{Firm}
use Rattle.tn_said.specs.Claim.{Claim, on_market, on_firms}
use Rattle.tn_said.specs.declared.part.Part.{Part}
use Rattle.tn_said.specs.declared.claim.FirmClaim.{FirmClaim}
use Rattle.tn_said.specs.declared.claim.FirmClaim.TheVariants.{Accepted, ExchangeFails, NoPrices}
use Rattle.tn_said.specs.declared.claim.MarketClaim.{MarketClaim}
use Rattle.tn_said.specs.declared.claim.MarketClaim.TheVariants.{Equilibrium, Better, Impossible, Supported, Cycle, Solved, Drops, Completes, Blocks}
use Rattle.tn_said.specs.declared.place.Word.{Word as WordIs}
use Rattle.tn_said.specs.declared.place.Word.TheVariants.{At, Bundle, Cost, Firm as FirmWord, Gain, Keeps, Surplus, X, Y}
use Rattle.tn_model.specs.Limits.{most_number, most_planned_trades}
use Rattle.tn_said.specs.ClaimLimits.{ArePricesWithin, IsClaimWithin, IsFirmWith, IsNumberWithin, IsOverWithin, IsPartWithin}
use Rattle.tn_model.specs.OutcomeLimits.{IsOutcomeWithin}
use Rattle.tn_model.specs.Network.{IsNetwork}
use Rattle.tn_model.proofs.InOrderNetworks.{there}
use Rattle.tn_read_shapes.specs.declared.claims.ClaimKind.{ClaimKind}
use Rattle.tn_read_shapes.specs.declared.claims.ClaimKind.TheVariants.{OnMarket, OnFirms}
use Rattle.tn_read_shapes.specs.declared.claims.FirmClaimKind.{FirmClaimKind}
use Rattle.tn_read_shapes.specs.declared.claims.FirmClaimKind.TheVariants.{Accepted as AcceptedKind, ExchangeFails as ExchangeFailsKind, NoPrices as NoPricesKind}
use Rattle.tn_read_shapes.specs.declared.claims.MarketClaimKind.{MarketClaimKind}
use Rattle.tn_read_shapes.specs.declared.claims.MarketClaimKind.TheVariants.{Equilibrium as EquilibriumKind, Better as BetterKind, Impossible as ImpossibleKind, Supported as SupportedKind, Cycle as CycleKind, Solved as SolvedKind, Drops as DropsKind, Completes as CompletesKind, Blocks as BlocksKind}
use Rattle.tn_read_shapes.specs.Reading.{holds}
use Rattle.tn_read_shapes.proofs.LeadLemmas.{Leads, le_from_test, leads_after, leads_bind, leads_holds, leads_ok}
use Rattle.tn_read_references.specs.Ordered.{AreInOrder, AreTrades, Listed, sides_of}
use Rattle.tn_read_references.proofs.ReferenceLeads.{bundle_leads, firm_at_leads}
use Rattle.tn_read_parts.specs.Arranged.{arrangement_of, trades_on_of, IsArrangement}
use Rattle.tn_read_parts.specs.Signed.{outcome_of}
use Rattle.tn_read_parts.proofs.ArrangementLeads.{arrangement_leads, trades_on_leads}
use Rattle.tn_read_parts.proofs.OutcomeLeads.{outcome_leads}
use Rattle.tn_read_claims.specs.Claimed.{accepted_of, better_of, blocks_of, claim_by, claim_of, completes_of, cycle_of, drops_of, equilibrium_of, failure_of, firm_claim_by, frame_of, impossible_of, market_claim_by, named_claim, no_prices_of, solved_of, supported_of}
use Rattle.tn_read_claims.specs.Laws.{ClaimsAreWithin}
use Rattle.tn_read_claims.specs.Members.{claim_place, claimed_bundle, claimed_contracts, claimed_firm, claimed_nodes, claimed_number, claimed_on, claimed_over, claimed_prices, gain_or_null, member_place, own_or_null}
use Rattle.tn_read_claims.specs.Planned.{claimed_plan}
use Rattle.tn_read_claims.proofs.PlanLemmas.{ArePlanned, IsOwnPart, plan_leads}
use Rattle.tn_read_claims.proofs.MemberLeads.{AreClaimedContracts, AreNodes, at_leads, claimed_contracts_lead, claimed_number_leads, claimed_prices_lead, gain_leads, nodes_lead, on_lead, over_lead, over_within}
use Rattle.tn_read_claims.proofs.OwnCounts.{counts_own}

-- ---- the limits

module _ (listed : Listed) (trades : AreTrades listed) (firms : List Firm) (named : length listed.names.firms
    ≡ length firms) (network : IsNetwork firms listed.ends) where
  abbrev names : List (List ℕ)
  names = listed.names.trades

  -- what is said of the count of names is said of the count of trades
  counted : (P : ℕ → Type 0) → P (length names) → P (length listed.ends)
  counted P said = subst P trades.named said

  abbrev n : ℕ
  n = length listed.ends

  abbrev IsWithin : Claim → Type 0
  IsWithin claim = IsClaimWithin firms listed.ends claim

  abbrev IsMarketWithin : MarketClaim → Type 0
  IsMarketWithin claim = IsWithin (on_market claim)

  abbrev IsFirmWithin : FirmClaim → Type 0
  IsFirmWithin claim = IsWithin (on_firms claim)

  arranged : (top : Data) → Leads (IsArrangement n) (arrangement_of listed top)
  arranged top =
      counted (λ m. Leads (IsArrangement m) (arrangement_of listed top)) (arrangement_leads listed trades.limits top)

  abbrev IsSet : ℕ → Type 0
  IsSet on = on < 2 ^ n

  on_alone : (top : Data) → Leads IsSet (trades_on_of names top)
  on_alone top = counted (λ m. Leads (λ on. on < 2 ^ m) (trades_on_of names top)) (trades_on_leads names top)

  signed : (top : Data) → Leads (IsOutcomeWithin n) (outcome_of listed top)
  signed top = counted (λ m. Leads (IsOutcomeWithin m) (outcome_of listed top)) (outcome_leads listed trades.limits top)

  priced : (claim : Data) → Leads (ArePricesWithin n most_number) (claimed_prices listed claim)
  priced claim =
      counted (λ m. Leads (ArePricesWithin m most_number) (claimed_prices listed claim))
      (claimed_prices_lead listed trades.limits claim)

  own_on : (claim : Data) → Leads IsSet (claimed_on names claim)
  own_on claim = counted (λ m. Leads (λ on. on < 2 ^ m) (claimed_on names claim)) (on_lead names claim)

  order : AreInOrder (length firms) listed.ends
  order = subst (λ m. AreInOrder m listed.ends) named trades.order

  -- what is said of the count of a firm's own trades
  own_firm : (f : ℕ) (P : ℕ → Type 0) → f < length listed.names.firms → P (length (sides_of listed.ends f))
      → IsFirmWith firms f (λ firm. P firm.count)
  own_firm f P known said =
      let at = there firms f (omega (arith, known, named)) in
      (at.0, at.1, subst P (sym (counts_own firms listed.ends order network f at.0 at.1)) said)

  abbrev IsKnown : ℕ → Type 0
  IsKnown f = f < length listed.names.firms

  abbrev IsOwn : ℕ → ℕ → Type 0
  IsOwn f x = x < 2 ^ length (sides_of listed.ends f)

  firm_lead : (claim : Data) → Leads IsKnown (claimed_firm listed.names.firms claim)
  firm_lead claim = firm_at_leads listed.names.firms (member_place FirmWord) (get (codes "firm") claim)

  bundle_lead : (f : ℕ) (word : WordIs) (value : Option Data) → Leads (IsOwn f) (claimed_bundle listed f word value)
  bundle_lead f word value = bundle_leads listed trades f (member_place word) value

  equilibrium_leads : (top claim : Data) → Leads IsMarketWithin (equilibrium_of listed top claim)
  unfolding equilibrium_of
  equilibrium_leads top claim =
      leads_bind (IsArrangement n) IsMarketWithin (arrangement_of listed top) _ (arranged top) (λ at is.
      leads_after IsMarketWithin (frame_of (OnMarket EquilibriumKind) claim) _ (λ frame.
      leads_bind IsNumberWithin IsMarketWithin (claimed_number listed Surplus (get (codes "surplus") claim)) _
      (claimed_number_leads listed trades.limits Surplus (get (codes "surplus") claim)) (λ surplus small.
      leads_ok IsMarketWithin (Equilibrium (record { on = at.on; prices = at.prices }) surplus) (
        is.on,
        record { one_each = is.count; small = is.small },
        small,
      ))))

  better_leads : (top claim : Data) → Leads IsMarketWithin (better_of listed top claim)
  unfolding better_of
  better_leads top claim =
      leads_bind (IsArrangement n) IsMarketWithin (arrangement_of listed top) _ (arranged top) (λ at is.
      leads_after IsMarketWithin (frame_of (OnMarket BetterKind) claim) _ (λ frame.
      leads_bind IsKnown IsMarketWithin (claimed_firm listed.names.firms claim) _ (firm_lead claim) (λ f known.
      leads_bind (IsOwn f) IsMarketWithin (claimed_bundle listed f Bundle (get (codes "bundle") claim)) _
      (bundle_lead f Bundle (get (codes "bundle") claim)) (λ x own.
      leads_bind IsNumberWithin IsMarketWithin (claimed_number listed Gain (get (codes "gain") claim)) _
      (claimed_number_leads listed trades.limits Gain (get (codes "gain") claim)) (λ gain small.
      leads_ok IsMarketWithin (Better (record { on = at.on; prices = at.prices }) f x gain) (
        is.on,
        record { one_each = is.count; small = is.small },
        own_firm f (λ m. x < 2 ^ m) known own,
        small,
      ))))))

  impossible_leads : (top claim : Data) → Leads IsMarketWithin (impossible_of listed top claim)
  unfolding impossible_of
  impossible_leads top claim =
      leads_bind IsSet IsMarketWithin (trades_on_of names top) _ (on_alone top) (λ on below.
      leads_after IsMarketWithin (frame_of (OnMarket ImpossibleKind) claim) _ (λ frame.
      leads_bind IsKnown IsMarketWithin (claimed_firm listed.names.firms claim) _ (firm_lead claim) (λ f known.
      leads_ok IsMarketWithin (Impossible on f) (below, omega (arith, known, named)))))

  accepted_leads : (claim : Data) → Leads IsFirmWithin (accepted_of claim)
  unfolding accepted_of
  accepted_leads claim = leads_after IsFirmWithin (frame_of (OnFirms AcceptedKind) claim) _ (λ frame. leads_ok IsFirmWithin Accepted tt)

  failure_leads : (claim : Data) → Leads IsFirmWithin (failure_of listed claim)
  unfolding failure_of
  failure_leads claim =
      leads_after IsFirmWithin (frame_of (OnFirms ExchangeFailsKind) claim) _ (λ frame.
      leads_bind IsKnown IsFirmWithin (claimed_firm listed.names.firms claim) _ (firm_lead claim) (λ f known.
      leads_bind (λ at. IfSome at (λ k. k < length (sides_of listed.ends f))) IsFirmWithin
      (own_or_null listed f (member_place At) (get (codes "at") claim)) _
      (at_leads listed trades f (member_place At) (get (codes "at") claim)) (λ at own_at.
      leads_bind (IsOwn f) IsFirmWithin (claimed_bundle listed f X (get (codes "x") claim)) _
      (bundle_lead f X (get (codes "x") claim)) (λ x own_x.
      leads_bind (IsOwn f) IsFirmWithin (claimed_bundle listed f Y (get (codes "y") claim)) _
      (bundle_lead f Y (get (codes "y") claim)) (λ y own_y.
      leads_ok IsFirmWithin (ExchangeFails f x y at)
      (own_firm f (λ m. (x < 2 ^ m) × (y < 2 ^ m) × IfSome at (λ k. k < m)) known (own_x, own_y, own_at)))))))

  supported_leads : (top claim : Data) → Leads IsMarketWithin (supported_of listed top claim)
  unfolding supported_of
  supported_leads top claim =
      leads_bind IsSet IsMarketWithin (trades_on_of names top) _ (on_alone top) (λ on below.
      leads_after IsMarketWithin (frame_of (OnMarket SupportedKind) claim) _ (λ frame.
      leads_bind (ArePricesWithin n most_number) IsMarketWithin (claimed_prices listed claim) _ (priced claim) (λ prices are.
      leads_ok IsMarketWithin (Supported on prices) (below, are))))

  cycle_leads : (top claim : Data) → Leads IsMarketWithin (cycle_of listed top claim)
  unfolding cycle_of
  cycle_leads top claim =
      leads_bind IsSet IsMarketWithin (trades_on_of names top) _ (on_alone top) (λ on below.
      leads_after IsMarketWithin (frame_of (OnMarket CycleKind) claim) _ (λ frame.
      leads_bind IsNumberWithin IsMarketWithin (claimed_number listed Cost (get (codes "cost") claim)) _
      (claimed_number_leads listed trades.limits Cost (get (codes "cost") claim)) (λ cost small.
      leads_bind (AreNodes listed) IsMarketWithin (claimed_nodes listed claim) _ (nodes_lead listed claim) (λ nodes are.
      let most = are.most in
      leads_ok IsMarketWithin (Cycle on nodes cost) (
        below,
        record {
          least = are.least;
          most = omega (arith, most, trades.limits.nodes);
          known = counted (λ m. All (λ node. IfSome node (λ t. t < m)) nodes) are.known;
        },
        small,
      )))))

  solved_leads : (claim : Data) → Leads IsMarketWithin (solved_of listed claim)
  unfolding solved_of
  solved_leads claim =
      leads_after IsMarketWithin (frame_of (OnMarket SolvedKind) claim) _ (λ frame.
      leads_bind IsSet IsMarketWithin (claimed_on names claim) _ (own_on claim) (λ on below.
      leads_bind (ArePricesWithin n most_number) IsMarketWithin (claimed_prices listed claim) _ (priced claim) (λ prices are.
      leads_bind IsNumberWithin IsMarketWithin (claimed_number listed Surplus (get (codes "surplus") claim)) _
      (claimed_number_leads listed trades.limits Surplus (get (codes "surplus") claim)) (λ surplus small.
      leads_ok IsMarketWithin (Solved (record { on = on; prices = prices }) surplus) (below, are, small)))))

  drops_leads : (top claim : Data) → Leads IsMarketWithin (drops_of listed top claim)
  unfolding drops_of
  drops_leads top claim =
      leads_bind (IsOutcomeWithin n) IsMarketWithin (outcome_of listed top) _ (signed top) (λ outcome is.
      leads_after IsMarketWithin (frame_of (OnMarket DropsKind) claim) _ (λ frame.
      leads_bind IsKnown IsMarketWithin (claimed_firm listed.names.firms claim) _ (firm_lead claim) (λ f known.
      leads_bind (λ gain. IfSome gain IsNumberWithin) IsMarketWithin (gain_or_null listed (get (codes "gain") claim)) _
      (gain_leads listed trades.limits (get (codes "gain") claim)) (λ gain small.
      leads_bind (IsOwn f) IsMarketWithin (claimed_bundle listed f Keeps (get (codes "keeps") claim)) _
      (bundle_lead f Keeps (get (codes "keeps") claim)) (λ keeps own.
      leads_bind IsOverWithin IsMarketWithin (claimed_over listed claim) _ (over_lead listed trades.limits claim)
      (λ over is_over.
      leads_ok IsMarketWithin (Drops outcome f keeps gain over) (
        is,
        own_firm f (λ m. keeps < 2 ^ m) known own,
        small,
        is_over,
      )))))))

  completes_leads : (top claim : Data) → Leads IsMarketWithin (completes_of listed top claim)
  unfolding completes_of
  completes_leads top claim =
      leads_bind (IsOutcomeWithin n) IsMarketWithin (outcome_of listed top) _ (signed top) (λ outcome is.
      leads_after IsMarketWithin (frame_of (OnMarket CompletesKind) claim) _ (λ frame.
      leads_bind IsOverWithin IsMarketWithin (claimed_over listed claim) _ (over_lead listed trades.limits claim)
      (λ over is_over.
      leads_bind (ArePricesWithin n most_number) IsMarketWithin (claimed_prices listed claim) _ (priced claim) (λ prices are.
      leads_ok IsMarketWithin (Completes outcome prices over) (is, are, is_over)))))

  blocks_leads : (top claim : Data) → Leads IsMarketWithin (blocks_of listed top claim)
  unfolding blocks_of
  blocks_leads top claim =
      leads_bind (IsOutcomeWithin n) IsMarketWithin (outcome_of listed top) _ (signed top) (λ outcome is.
      leads_after IsMarketWithin (frame_of (OnMarket BlocksKind) claim) _ (λ frame.
      leads_bind (AreClaimedContracts names) IsMarketWithin (claimed_contracts listed claim) _
      (claimed_contracts_lead listed trades.limits claim) (λ contracts are.
      leads_bind IsOverWithin IsMarketWithin (claimed_over listed claim) _ (over_lead listed trades.limits claim)
      (λ over is_over.
      leads_ok IsMarketWithin (Blocks outcome contracts over) (
        is,
        record {
          feasible = record {
            known =
                λ k contract at. subst (λ m. contract.trade < m) trades.named (are.known k contract at);
            once =
                are.once;
          };
          small = are.small;
        },
        is_over,
      )))))

  own_part : (part : Part) → IsOwnPart listed trades part → IsPartWithin firms part
  own_part part is = (
    own_firm part.firm (λ m. part.bundle < 2 ^ m) is.known is.own,
    over_within listed trades.limits part.weight
        is.weight,
  )

  no_prices_leads : (claim : Data) → Leads IsFirmWithin (no_prices_of listed claim)
  unfolding no_prices_of
  no_prices_leads claim =
      let few_trades = nat_le n most_planned_trades in
      leads_bind (λ _. few_trades ≡ true) IsFirmWithin (holds Limit claim_place few_trades) _
      (leads_holds Limit claim_place few_trades) (λ u few.
      leads_after IsFirmWithin (frame_of (OnFirms NoPricesKind) claim) _ (λ frame.
      leads_bind IsOverWithin IsFirmWithin (claimed_over listed claim) _ (over_lead listed trades.limits claim)
      (λ over is_over.
      leads_bind (ArePlanned listed trades) IsFirmWithin (claimed_plan listed claim) _ (plan_leads listed trades claim)
      (λ plan are.
      leads_ok IsFirmWithin (NoPrices plan over) (
        le_from_test n most_planned_trades few,
        (λ k d below. own_part (get_or plan k d) (are.parts k d below)),
        is_over,
        are.few,
      )))))

  by_market_kind : (kind : MarketClaimKind) (top claim : Data)
      → Leads IsMarketWithin (market_claim_by listed kind top claim)
  by_market_kind EquilibriumKind top claim = equilibrium_leads top claim
  by_market_kind BetterKind top claim = better_leads top claim
  by_market_kind ImpossibleKind top claim = impossible_leads top claim
  by_market_kind SupportedKind top claim = supported_leads top claim
  by_market_kind CycleKind top claim = cycle_leads top claim
  by_market_kind SolvedKind top claim = solved_leads claim
  by_market_kind DropsKind top claim = drops_leads top claim
  by_market_kind CompletesKind top claim = completes_leads top claim
  by_market_kind BlocksKind top claim = blocks_leads top claim

  by_firm_kind : (kind : FirmClaimKind) (claim : Data) → Leads IsFirmWithin (firm_claim_by listed kind claim)
  by_firm_kind AcceptedKind claim = accepted_leads claim
  by_firm_kind ExchangeFailsKind claim = failure_leads claim
  by_firm_kind NoPricesKind claim = no_prices_leads claim

  by_kind : (kind : ClaimKind) (top claim : Data) → Leads IsWithin (claim_by listed kind top claim)
  by_kind (OnMarket kind) top claim =
      leads_bind IsMarketWithin IsWithin (market_claim_by listed kind top claim) _ (by_market_kind kind top claim)
      (λ read within. leads_ok IsWithin (on_market read) within)
  by_kind (OnFirms kind) top claim =
      leads_bind IsFirmWithin IsWithin (firm_claim_by listed kind claim) _ (by_firm_kind kind claim)
      (λ read within. leads_ok IsWithin (on_firms read) within)

  pub claim_leads : (top : Data) → Leads IsWithin (claim_of listed top)
  unfolding claim_of
  claim_leads top = leads_after IsWithin (named_claim top) _ (λ named. by_kind named.0 top named.1)

pub claims_are_within : ClaimsAreWithin
claims_are_within listed firms top claim trades named network e =
    (claim_leads listed trades firms named network top).at claim e
