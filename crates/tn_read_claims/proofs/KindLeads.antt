-- The claim that reading gives keeps the limits, and its answer tells before whether its network is read raw.
use Rattle.std.proofs.Common.{◌≡◌, length, Ok, ap}
use Rattle.std.specs.Prelude.{All, codes, nat_le}
use Rattle.serde_json.specs.Data.{Data}
use Rattle.serde_json.specs.Find.{get}
use Rattle.tn_said.specs.declared.fault.FaultKind.TheVariants.{Limit}
use Rattle.tn_model.specs.Limits.{most_planned_trades}
use Rattle.tn_said.specs.Claim.{Claim, is_raw, on_market, on_firms}
use Rattle.tn_said.specs.declared.claim.FirmClaim.{FirmClaim}
use Rattle.tn_said.specs.declared.claim.FirmClaim.TheVariants.{Accepted, ExchangeFails, NoPrices}
use Rattle.tn_said.specs.declared.claim.MarketClaim.{MarketClaim}
use Rattle.tn_said.specs.declared.claim.MarketClaim.TheVariants.{Equilibrium, Better, Impossible, Supported, Cycle, Solved, Drops, Completes, Blocks}
use Rattle.tn_said.specs.declared.place.Word.TheVariants.{At, Bundle, Cost, Gain, Keeps, Over, Surplus, X, Y}
use Rattle.tn_read_shapes.specs.declared.claims.ClaimKind.{ClaimKind}
use Rattle.tn_read_shapes.specs.declared.claims.ClaimKind.TheVariants.{OnMarket, OnFirms}
use Rattle.tn_read_shapes.specs.declared.claims.FirmClaimKind.{FirmClaimKind}
use Rattle.tn_read_shapes.specs.declared.claims.FirmClaimKind.TheVariants.{Accepted as AcceptedKind, ExchangeFails as ExchangeFailsKind, NoPrices as NoPricesKind}
use Rattle.tn_read_shapes.specs.declared.claims.MarketClaimKind.{MarketClaimKind}
use Rattle.tn_read_shapes.specs.declared.claims.MarketClaimKind.TheVariants.{Equilibrium as EquilibriumKind, Better as BetterKind, Impossible as ImpossibleKind, Supported as SupportedKind, Cycle as CycleKind, Solved as SolvedKind, Drops as DropsKind, Completes as CompletesKind, Blocks as BlocksKind}
use Rattle.tn_read_shapes.specs.Reading.{holds}
use Rattle.tn_read_shapes.proofs.LeadLemmas.{Leads, leads_after, leads_bind, leads_ok}
use Rattle.tn_read_references.specs.Ordered.{Listed}
use Rattle.tn_read_parts.specs.Arranged.{arrangement_of, trades_on_of}
use Rattle.tn_read_parts.specs.Signed.{outcome_of}
use Rattle.tn_read_claims.specs.Claimed.{accepted_of, better_of, blocks_of, claim_by, claim_of, claims_raw, completes_of, cycle_of, drops_of, equilibrium_of, failure_of, firm_claim_by, frame_of, impossible_of, market_claim_by, named_claim, is_on_firms, no_prices_of, solved_of, supported_of}
use Rattle.tn_read_claims.specs.Laws.{ClaimsKeepLimits, KeepsClaimLimits, RawClaimsAreTold}
use Rattle.tn_read_claims.specs.Members.{claim_place, claimed_bundle, claimed_contracts, claimed_firm, claimed_nodes, claimed_number, claimed_on, claimed_over, claimed_prices, gain_or_null, member_place, own_or_null}
use Rattle.tn_read_claims.specs.Planned.{claimed_plan}
use Rattle.tn_read_claims.proofs.MemberLeads.{AreNodes, nodes_lead}
use Rattle.tn_read_claims.proofs.PlanLemmas.{IsWeight, parts_are_weighed}
use Rattle.tn_read_parts.proofs.OutcomeLeads.{IsOver, over_leads}

module _ (listed : Listed) (top claim : Data) where
  abbrev MarketKeeps : MarketClaim → Type 0
  MarketKeeps read = KeepsClaimLimits listed.limits (on_market read)

  abbrev FirmsKeep : FirmClaim → Type 0
  FirmsKeep read = KeepsClaimLimits listed.limits (on_firms read)

  over_lead : Leads (IsOver listed.limits.claimed_over) (claimed_over listed claim)
  over_lead = over_leads listed.limits.claimed_over (member_place Over) (get (codes "over") claim)

  equilibrium_keeps : Leads MarketKeeps (equilibrium_of listed top claim)
  unfolding equilibrium_of
  equilibrium_keeps =
      leads_after MarketKeeps (arrangement_of listed top) _ (λ at.
      leads_after MarketKeeps (frame_of (OnMarket EquilibriumKind) claim) _ (λ frame.
      leads_after MarketKeeps
      (claimed_number listed Surplus (get (codes "surplus") claim)) _ (λ surplus.
      leads_ok MarketKeeps
      (Equilibrium (record { on = at.on; prices = at.prices }) surplus) tt)))

  better_keeps : Leads MarketKeeps (better_of listed top claim)
  unfolding better_of
  better_keeps =
      leads_after MarketKeeps (arrangement_of listed top) _ (λ at.
      leads_after MarketKeeps (frame_of (OnMarket BetterKind) claim) _ (λ frame.
      leads_after MarketKeeps (claimed_firm listed.names.firms claim) _ (λ f.
      leads_after MarketKeeps (claimed_bundle listed f Bundle (get (codes "bundle") claim)) _
      (λ x.
      leads_after MarketKeeps (claimed_number listed Gain (get (codes "gain") claim)) _
      (λ gain.
      leads_ok MarketKeeps (Better (record { on = at.on; prices = at.prices }) f x gain)
      tt)))))

  impossible_keeps : Leads MarketKeeps (impossible_of listed top claim)
  unfolding impossible_of
  impossible_keeps =
      leads_after MarketKeeps (trades_on_of listed.names.trades top) _ (λ on.
      leads_after MarketKeeps (frame_of (OnMarket ImpossibleKind) claim) _ (λ frame.
      leads_after MarketKeeps (claimed_firm listed.names.firms claim) _ (λ f.
      leads_ok MarketKeeps (Impossible on f) tt)))

  accepted_keeps : Leads FirmsKeep (accepted_of claim)
  unfolding accepted_of
  accepted_keeps =
      leads_after FirmsKeep (frame_of (OnFirms AcceptedKind) claim) _ (λ frame.
      leads_ok FirmsKeep (Accepted) tt)

  failure_keeps : Leads FirmsKeep (failure_of listed claim)
  unfolding failure_of
  failure_keeps =
      leads_after FirmsKeep (frame_of (OnFirms ExchangeFailsKind) claim) _ (λ frame.
      leads_after FirmsKeep (claimed_firm listed.names.firms claim) _ (λ f.
      leads_after FirmsKeep
      (own_or_null listed f (member_place At) (get (codes "at") claim)) _ (λ at.
      leads_after FirmsKeep (claimed_bundle listed f X (get (codes "x") claim)) _
      (λ x.
      leads_after FirmsKeep (claimed_bundle listed f Y (get (codes "y") claim)) _
      (λ y.
      leads_ok FirmsKeep (ExchangeFails f x y at)
      tt)))))

  supported_keeps : Leads MarketKeeps (supported_of listed top claim)
  unfolding supported_of
  supported_keeps =
      leads_after MarketKeeps (trades_on_of listed.names.trades top) _ (λ on.
      leads_after MarketKeeps (frame_of (OnMarket SupportedKind) claim) _ (λ frame.
      leads_after MarketKeeps (claimed_prices listed claim) _ (λ prices.
      leads_ok MarketKeeps (Supported on prices) tt)))

  cycle_keeps : Leads MarketKeeps (cycle_of listed top claim)
  unfolding cycle_of
  cycle_keeps =
      leads_after MarketKeeps (trades_on_of listed.names.trades top) _ (λ on.
      leads_after MarketKeeps (frame_of (OnMarket CycleKind) claim) _ (λ frame.
      leads_after MarketKeeps (claimed_number listed Cost (get (codes "cost") claim)) _
      (λ cost.
      leads_bind (AreNodes listed) MarketKeeps (claimed_nodes listed claim) _
      (nodes_lead listed claim) (λ nodes are.
      leads_ok MarketKeeps (Cycle on nodes cost) are.most))))

  solved_keeps : Leads MarketKeeps (solved_of listed claim)
  unfolding solved_of
  solved_keeps =
      leads_after MarketKeeps (frame_of (OnMarket SolvedKind) claim) _ (λ frame.
      leads_after MarketKeeps (claimed_on listed.names.trades claim) _ (λ on.
      leads_after MarketKeeps (claimed_prices listed claim) _ (λ prices.
      leads_after MarketKeeps (claimed_number listed Surplus (get (codes "surplus") claim)) _
      (λ surplus.
      leads_ok MarketKeeps (Solved (record { on = on; prices = prices }) surplus)
      tt))))

  drops_keeps : Leads MarketKeeps (drops_of listed top claim)
  unfolding drops_of
  drops_keeps =
      leads_after MarketKeeps (outcome_of listed top) _ (λ outcome.
      leads_after MarketKeeps (frame_of (OnMarket DropsKind) claim) _ (λ frame.
      leads_after MarketKeeps (claimed_firm listed.names.firms claim) _ (λ f.
      leads_after MarketKeeps (gain_or_null listed (get (codes "gain") claim)) _ (λ gain.
      leads_after MarketKeeps (claimed_bundle listed f Keeps (get (codes "keeps") claim)) _
      (λ keeps.
      leads_bind (IsOver listed.limits.claimed_over) MarketKeeps (claimed_over listed claim) _
      over_lead (λ over is_over.
      leads_ok MarketKeeps (Drops outcome f keeps gain over) is_over.most))))))

  completes_keeps : Leads MarketKeeps (completes_of listed top claim)
  unfolding completes_of
  completes_keeps =
      leads_after MarketKeeps (outcome_of listed top) _ (λ outcome.
      leads_after MarketKeeps (frame_of (OnMarket CompletesKind) claim) _ (λ frame.
      leads_bind (IsOver listed.limits.claimed_over) MarketKeeps (claimed_over listed claim) _
      over_lead (λ over is_over.
      leads_after MarketKeeps (claimed_prices listed claim) _ (λ prices.
      leads_ok MarketKeeps (Completes outcome prices over) is_over.most))))

  blocks_keeps : Leads MarketKeeps (blocks_of listed top claim)
  unfolding blocks_of
  blocks_keeps =
      leads_after MarketKeeps (outcome_of listed top) _ (λ outcome.
      leads_after MarketKeeps (frame_of (OnMarket BlocksKind) claim) _ (λ frame.
      leads_after MarketKeeps (claimed_contracts listed claim) _ (λ contracts.
      leads_bind (IsOver listed.limits.claimed_over) MarketKeeps (claimed_over listed claim) _
      over_lead (λ over is_over.
      leads_ok MarketKeeps (Blocks outcome contracts over) is_over.most))))

  no_prices_keeps : Leads FirmsKeep (no_prices_of listed claim)
  unfolding no_prices_of
  no_prices_keeps =
      leads_after FirmsKeep
      (holds Limit claim_place (nat_le (length listed.ends) most_planned_trades)) _ (λ u.
      leads_after FirmsKeep (frame_of (OnFirms NoPricesKind) claim) _ (λ frame.
      leads_bind (IsOver listed.limits.claimed_over) FirmsKeep (claimed_over listed claim) _
      over_lead (λ over is_over.
      leads_bind (All (λ part. IsWeight listed part.weight)) FirmsKeep
      (claimed_plan listed claim) _ (parts_are_weighed listed claim) (λ plan are.
      leads_ok FirmsKeep (NoPrices plan over) (is_over.most, λ k d below. (are k d below).most)))))

  market_keeps : (kind : MarketClaimKind) → Leads MarketKeeps (market_claim_by listed kind top claim)
  market_keeps EquilibriumKind = equilibrium_keeps
  market_keeps BetterKind = better_keeps
  market_keeps ImpossibleKind = impossible_keeps
  market_keeps SupportedKind = supported_keeps
  market_keeps CycleKind = cycle_keeps
  market_keeps SolvedKind = solved_keeps
  market_keeps DropsKind = drops_keeps
  market_keeps CompletesKind = completes_keeps
  market_keeps BlocksKind = blocks_keeps

  firms_keep : (kind : FirmClaimKind) → Leads FirmsKeep (firm_claim_by listed kind claim)
  firms_keep AcceptedKind = accepted_keeps
  firms_keep ExchangeFailsKind = failure_keeps
  firms_keep NoPricesKind = no_prices_keeps

-- what is known of a claim before and after it is read
record IsTold (listed : Listed) (top : Data) (claim : Claim) : Type 0 where
  raw : claims_raw top ≡ is_raw claim
  keeps : KeepsClaimLimits listed.limits claim

by_kind : (listed : Listed) (top : Data) (kind : ClaimKind) (claim : Data) → named_claim top ≡ Ok (kind, claim)
    → Leads (IsTold listed top) (claim_by listed kind top claim)
by_kind listed top (OnMarket kind) claim named =
    leads_bind (MarketKeeps listed top claim) (IsTold listed top) (market_claim_by listed kind top claim) _
    (market_keeps listed top claim kind) (λ read keeps.
    leads_ok (IsTold listed top) (on_market read) (record { raw = ap is_on_firms named; keeps = keeps }))
by_kind listed top (OnFirms kind) claim named =
    leads_bind (FirmsKeep listed top claim) (IsTold listed top) (firm_claim_by listed kind claim) _
    (firms_keep listed top claim kind) (λ read keeps.
    leads_ok (IsTold listed top) (on_firms read) (record { raw = ap is_on_firms named; keeps = keeps }))

told_leads : (listed : Listed) (top : Data) → Leads (IsTold listed top) (claim_of listed top)
unfolding claim_of
told_leads listed top =
    leads_bind (λ named. named_claim top ≡ Ok named) (IsTold listed top) (named_claim top) _
    (record { at = λ named e. e }) (λ named is.
    by_kind listed top named.0 named.1 is)

pub raw_claims_are_told : RawClaimsAreTold
raw_claims_are_told listed top claim e = ((told_leads listed top).at claim e).raw

pub claims_keep_limits : ClaimsKeepLimits
claims_keep_limits listed top claim e = ((told_leads listed top).at claim e).keeps
