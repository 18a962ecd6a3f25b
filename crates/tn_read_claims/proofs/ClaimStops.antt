-- Wherever the reading of a claim stops, its fault speaks of named trades.
use Rattle.std.proofs.Common.{ℕ, ◌<◌, ◌≤◌, length, Some, refl}
use Rattle.std.specs.Prelude.{codes, nat_le}
use Rattle.serde_json.specs.Data.{Data}
use Rattle.serde_json.specs.Find.{get}
use Rattle.tn_said.specs.declared.fault.FaultKind.TheVariants.{Limit, Shape}
use Rattle.tn_model.specs.Limits.{most_own_trades, most_planned_trades}
use Rattle.tn_said.specs.Claim.{on_market, on_firms}
use Rattle.tn_said.specs.declared.claim.FirmClaim.TheVariants.{Accepted, ExchangeFails, NoPrices}
use Rattle.tn_said.specs.declared.claim.MarketClaim.TheVariants.{Equilibrium, Better, Impossible, Supported, Cycle, Solved, Drops, Completes, Blocks}
use Rattle.tn_said.specs.declared.place.Word.TheVariants.{Answer, At, Bundle, Cost, Firm as FirmWord, Gain, Keeps, Over, Surplus, X, Y}
use Rattle.tn_said.specs.declared.said.Fault.{Fault}
use Rattle.tn_read_shapes.specs.declared.claims.ClaimKind.{ClaimKind}
use Rattle.tn_read_shapes.specs.declared.claims.ClaimKind.TheVariants.{OnMarket, OnFirms}
use Rattle.tn_read_shapes.specs.declared.claims.FirmClaimKind.{FirmClaimKind}
use Rattle.tn_read_shapes.specs.declared.claims.FirmClaimKind.TheVariants.{Accepted as AcceptedKind, ExchangeFails as ExchangeFailsKind, NoPrices as NoPricesKind}
use Rattle.tn_read_shapes.specs.declared.claims.MarketClaimKind.{MarketClaimKind}
use Rattle.tn_read_shapes.specs.declared.claims.MarketClaimKind.TheVariants.{Equilibrium as EquilibriumKind, Better as BetterKind, Impossible as ImpossibleKind, Supported as SupportedKind, Cycle as CycleKind, Solved as SolvedKind, Drops as DropsKind, Completes as CompletesKind, Blocks as BlocksKind}
use Rattle.tn_read_shapes.specs.declared.members.ObjectKind.TheVariants.{Claim as ClaimObject}
use Rattle.tn_read_shapes.specs.Claims.{claim_named}
use Rattle.tn_read_shapes.specs.Reading.{holds, wanted}
use Rattle.tn_read_shapes.specs.Shapes.{object_at, text_at}
use Rattle.tn_read_shapes.proofs.LeadLemmas.{Leads}
use Rattle.tn_read_shapes.proofs.ShapeStops.{number_stops, object_at_stops, object_stops, text_stops}
use Rattle.tn_read_shapes.proofs.StopLemmas.{IsPlain, Stops, StopsPlainly, plain_holds, plain_wanted, stops_after, stops_bind, stops_ok}
use Rattle.tn_read_references.specs.Ordered.{AreTrades, Listed, sides_of}
use Rattle.tn_read_references.proofs.ReferenceLeads.{firm_at_leads}
use Rattle.tn_read_references.proofs.ReferenceStops.{bundle_stops, firm_at_stops}
use Rattle.tn_read_references.proofs.ToldLemmas.{IsTold, told_from_plain}
use Rattle.tn_read_parts.specs.Arranged.{arrangement_of, trades_on_of}
use Rattle.tn_read_parts.specs.Signed.{outcome_of}
use Rattle.tn_read_parts.proofs.ArrangementStops.{arrangement_stops, trades_on_stop}
use Rattle.tn_read_parts.proofs.OutcomeStops.{outcome_stops, over_stops}
use Rattle.tn_read_claims.specs.Claimed.{accepted_of, better_of, blocks_of, claim_by, claim_of, completes_of, cycle_of, drops_of, equilibrium_of, failure_of, firm_claim_by, frame_of, impossible_of, kind_of, market_claim_by, named_claim, no_prices_of, solved_of, supported_of}
use Rattle.tn_read_claims.specs.Members.{claim_place, claimed_bundle, claimed_contracts, claimed_firm, claimed_nodes, claimed_number, claimed_on, claimed_over, claimed_prices, gain_or_null, member_place, own_or_null}
use Rattle.tn_read_claims.specs.Planned.{claimed_plan}
use Rattle.tn_read_claims.proofs.PlanLemmas.{plan_stops}
use Rattle.tn_read_claims.proofs.MemberStops.{at_stops, claimed_contracts_stop, claimed_on_stops, claimed_prices_stop, gain_stops, nodes_stop}

module _ (listed : Listed) (trades : AreTrades listed) (few : length listed.names.trades ≤ 16384) (few_own : (f : ℕ)
    → f < length listed.names.firms → length (sides_of listed.ends f) ≤ most_own_trades) where
  abbrev Told : Fault → Type 0
  Told = IsTold listed.names.trades

  firm_known : (claim : Data) → Leads (λ f. f < length listed.names.firms) (claimed_firm listed.names.firms claim)
  firm_known claim = firm_at_leads listed.names.firms (member_place FirmWord) (get (codes "firm") claim)

  equilibrium_stops : (top claim : Data) → Stops Told (equilibrium_of listed top claim)
  unfolding equilibrium_of
  equilibrium_stops top claim =
      stops_bind Told (arrangement_of listed top) _ (arrangement_stops listed few top) (λ at.
      stops_bind Told (frame_of (OnMarket EquilibriumKind) claim) _ (told_from_plain listed.names.trades _
      (object_stops claim_place (tt, tt) (ClaimObject (OnMarket EquilibriumKind)) (Some claim))) (λ frame.
      stops_bind Told (claimed_number listed Surplus (get (codes "surplus") claim)) _
      (told_from_plain listed.names.trades _ (number_stops (member_place Surplus) (
        tt,
        (tt, tt),
      ) listed.limits.number (get (codes "surplus") claim))) (λ surplus.
      stops_ok Told (Equilibrium (record { on = at.on; prices = at.prices }) surplus))))

  better_stops : (top claim : Data) → Stops Told (better_of listed top claim)
  unfolding better_of
  better_stops top claim =
      stops_bind Told (arrangement_of listed top) _ (arrangement_stops listed few top) (λ at.
      stops_bind Told (frame_of (OnMarket BetterKind) claim) _ (told_from_plain listed.names.trades _
      (object_stops claim_place (tt, tt) (ClaimObject (OnMarket BetterKind)) (Some claim))) (λ frame.
      stops_after Told (λ f. f < length listed.names.firms) (claimed_firm listed.names.firms claim) _ (firm_known claim)
      (told_from_plain listed.names.trades _ (firm_at_stops (member_place FirmWord) (
        tt,
        (tt, tt),
      ) listed.names.firms (get (codes "firm") claim))) (λ f known.
      stops_bind Told (claimed_bundle listed f Bundle (get (codes "bundle") claim)) _
      (told_from_plain listed.names.trades _ (bundle_stops listed trades f (few_own f known) (member_place Bundle)
      (tt, (tt, tt)) (get (codes "bundle") claim))) (λ x.
      stops_bind Told (claimed_number listed Gain (get (codes "gain") claim)) _
      (told_from_plain listed.names.trades _ (number_stops (member_place Gain) (
        tt,
        (tt, tt),
      ) listed.limits.number (get (codes "gain") claim))) (λ gain.
      stops_ok Told (Better (record { on = at.on; prices = at.prices }) f x gain))))))

  impossible_stops : (top claim : Data) → Stops Told (impossible_of listed top claim)
  unfolding impossible_of
  impossible_stops top claim =
      stops_bind Told (trades_on_of listed.names.trades top) _
      (told_from_plain listed.names.trades _ (trades_on_stop listed.names.trades few top)) (λ on.
      stops_bind Told (frame_of (OnMarket ImpossibleKind) claim) _ (told_from_plain listed.names.trades _
      (object_stops claim_place (tt, tt) (ClaimObject (OnMarket ImpossibleKind)) (Some claim))) (λ frame.
      stops_after Told (λ f. f < length listed.names.firms) (claimed_firm listed.names.firms claim) _ (firm_known claim)
      (told_from_plain listed.names.trades _ (firm_at_stops (member_place FirmWord) (
        tt,
        (tt, tt),
      ) listed.names.firms (get (codes "firm") claim))) (λ f known.
      stops_ok Told (Impossible on f))))

  accepted_stops : (claim : Data) → Stops Told (accepted_of claim)
  unfolding accepted_of
  accepted_stops claim =
      stops_bind Told (frame_of (OnFirms AcceptedKind) claim) _ (told_from_plain listed.names.trades _
      (object_stops claim_place (tt, tt) (ClaimObject (OnFirms AcceptedKind)) (Some claim))) (λ frame.
      stops_ok Told (Accepted))

  failure_stops : (claim : Data) → Stops Told (failure_of listed claim)
  unfolding failure_of
  failure_stops claim =
      stops_bind Told (frame_of (OnFirms ExchangeFailsKind) claim) _
      (told_from_plain listed.names.trades _ (object_stops claim_place (
        tt,
        tt,
      ) (ClaimObject (OnFirms ExchangeFailsKind)) (Some claim))) (λ frame.
      stops_after Told (λ f. f < length listed.names.firms) (claimed_firm listed.names.firms claim) _ (firm_known claim)
      (told_from_plain listed.names.trades _ (firm_at_stops (member_place FirmWord) (
        tt,
        (tt, tt),
      ) listed.names.firms (get (codes "firm") claim))) (λ f known.
      stops_bind Told (own_or_null listed f (member_place At) (get (codes "at") claim)) _
      (told_from_plain listed.names.trades _ (at_stops listed f (member_place At) (
        tt,
        (tt, tt),
      ) (get (codes "at") claim))) (λ at.
      stops_bind Told (claimed_bundle listed f X (get (codes "x") claim)) _
      (told_from_plain listed.names.trades _ (bundle_stops listed trades f (few_own f known) (member_place X) (
        tt,
        (tt, tt),
      ) (get (codes "x") claim))) (λ x.
      stops_bind Told (claimed_bundle listed f Y (get (codes "y") claim)) _
      (told_from_plain listed.names.trades _ (bundle_stops listed trades f (few_own f known) (member_place Y) (
        tt,
        (tt, tt),
      ) (get (codes "y") claim))) (λ y.
      stops_ok Told (ExchangeFails f x y at))))))

  supported_stops : (top claim : Data) → Stops Told (supported_of listed top claim)
  unfolding supported_of
  supported_stops top claim =
      stops_bind Told (trades_on_of listed.names.trades top) _
      (told_from_plain listed.names.trades _ (trades_on_stop listed.names.trades few top)) (λ on.
      stops_bind Told (frame_of (OnMarket SupportedKind) claim) _ (told_from_plain listed.names.trades _
      (object_stops claim_place (tt, tt) (ClaimObject (OnMarket SupportedKind)) (Some claim))) (λ frame.
      stops_bind Told (claimed_prices listed claim) _ (claimed_prices_stop listed few claim) (λ prices.
      stops_ok Told (Supported on prices))))

  cycle_stops : (top claim : Data) → Stops Told (cycle_of listed top claim)
  unfolding cycle_of
  cycle_stops top claim =
      stops_bind Told (trades_on_of listed.names.trades top) _
      (told_from_plain listed.names.trades _ (trades_on_stop listed.names.trades few top)) (λ on.
      stops_bind Told (frame_of (OnMarket CycleKind) claim) _ (told_from_plain listed.names.trades _
      (object_stops claim_place (tt, tt) (ClaimObject (OnMarket CycleKind)) (Some claim))) (λ frame.
      stops_bind Told (claimed_number listed Cost (get (codes "cost") claim)) _
      (told_from_plain listed.names.trades _ (number_stops (member_place Cost) (
        tt,
        (tt, tt),
      ) listed.limits.number (get (codes "cost") claim))) (λ cost.
      stops_bind Told (claimed_nodes listed claim) _ (told_from_plain listed.names.trades _
      (nodes_stop listed trades.limits claim)) (λ nodes.
      stops_ok Told (Cycle on nodes cost)))))

  solved_stops : (claim : Data) → Stops Told (solved_of listed claim)
  unfolding solved_of
  solved_stops claim =
      stops_bind Told (frame_of (OnMarket SolvedKind) claim) _ (told_from_plain listed.names.trades _
      (object_stops claim_place (tt, tt) (ClaimObject (OnMarket SolvedKind)) (Some claim))) (λ frame.
      stops_bind Told (claimed_on listed.names.trades claim) _
      (told_from_plain listed.names.trades _ (claimed_on_stops listed.names.trades few claim)) (λ on.
      stops_bind Told (claimed_prices listed claim) _ (claimed_prices_stop listed few claim) (λ prices.
      stops_bind Told (claimed_number listed Surplus (get (codes "surplus") claim)) _
      (told_from_plain listed.names.trades _ (number_stops (member_place Surplus) (
        tt,
        (tt, tt),
      ) listed.limits.number (get (codes "surplus") claim))) (λ surplus.
      stops_ok Told (Solved (record { on = on; prices = prices }) surplus)))))

  drops_stops : (top claim : Data) → Stops Told (drops_of listed top claim)
  unfolding drops_of
  drops_stops top claim =
      stops_bind Told (outcome_of listed top) _ (told_from_plain listed.names.trades _ (outcome_stops listed few top))
      (λ outcome.
      stops_bind Told (frame_of (OnMarket DropsKind) claim) _ (told_from_plain listed.names.trades _
      (object_stops claim_place (tt, tt) (ClaimObject (OnMarket DropsKind)) (Some claim))) (λ frame.
      stops_after Told (λ f. f < length listed.names.firms) (claimed_firm listed.names.firms claim) _ (firm_known claim)
      (told_from_plain listed.names.trades _ (firm_at_stops (member_place FirmWord) (
        tt,
        (tt, tt),
      ) listed.names.firms (get (codes "firm") claim))) (λ f known.
      stops_bind Told (gain_or_null listed (get (codes "gain") claim)) _
      (told_from_plain listed.names.trades _ (gain_stops listed (get (codes "gain") claim))) (λ gain.
      stops_bind Told (claimed_bundle listed f Keeps (get (codes "keeps") claim)) _
      (told_from_plain listed.names.trades _ (bundle_stops listed trades f (few_own f known) (member_place Keeps)
      (tt, (tt, tt)) (get (codes "keeps") claim))) (λ keeps.
      stops_bind Told (claimed_over listed claim) _ (told_from_plain listed.names.trades _
      (over_stops listed.limits.claimed_over (member_place Over) (tt, (tt, tt)) (get (codes "over") claim)))
      (λ over.
      stops_ok Told (Drops outcome f keeps gain over)))))))

  completes_stops : (top claim : Data) → Stops Told (completes_of listed top claim)
  unfolding completes_of
  completes_stops top claim =
      stops_bind Told (outcome_of listed top) _ (told_from_plain listed.names.trades _ (outcome_stops listed few top))
      (λ outcome.
      stops_bind Told (frame_of (OnMarket CompletesKind) claim) _ (told_from_plain listed.names.trades _
      (object_stops claim_place (tt, tt) (ClaimObject (OnMarket CompletesKind)) (Some claim))) (λ frame.
      stops_bind Told (claimed_over listed claim) _ (told_from_plain listed.names.trades _
      (over_stops listed.limits.claimed_over (member_place Over) (tt, (tt, tt)) (get (codes "over") claim)))
      (λ over.
      stops_bind Told (claimed_prices listed claim) _ (claimed_prices_stop listed few claim) (λ prices.
      stops_ok Told (Completes outcome prices over)))))

  blocks_stops : (top claim : Data) → Stops Told (blocks_of listed top claim)
  unfolding blocks_of
  blocks_stops top claim =
      stops_bind Told (outcome_of listed top) _ (told_from_plain listed.names.trades _ (outcome_stops listed few top))
      (λ outcome.
      stops_bind Told (frame_of (OnMarket BlocksKind) claim) _ (told_from_plain listed.names.trades _
      (object_stops claim_place (tt, tt) (ClaimObject (OnMarket BlocksKind)) (Some claim))) (λ frame.
      stops_bind Told (claimed_contracts listed claim) _ (told_from_plain listed.names.trades _
      (claimed_contracts_stop listed few claim)) (λ contracts.
      stops_bind Told (claimed_over listed claim) _ (told_from_plain listed.names.trades _
      (over_stops listed.limits.claimed_over (member_place Over) (tt, (tt, tt)) (get (codes "over") claim)))
      (λ over.
      stops_ok Told (Blocks outcome contracts over)))))

  no_prices_stops : (claim : Data) → Stops Told (no_prices_of listed claim)
  unfolding no_prices_of
  no_prices_stops claim =
      let few_trades = nat_le (length listed.ends) most_planned_trades in
      stops_bind Told (holds Limit claim_place few_trades) _
      (told_from_plain listed.names.trades _ (plain_holds Limit claim_place few_trades refl (tt, tt))) (λ u.
      stops_bind Told (frame_of (OnFirms NoPricesKind) claim) _ (told_from_plain listed.names.trades _
      (object_stops claim_place (tt, tt) (ClaimObject (OnFirms NoPricesKind)) (Some claim))) (λ frame.
      stops_bind Told (claimed_over listed claim) _ (told_from_plain listed.names.trades _
      (over_stops listed.limits.claimed_over (member_place Over) (tt, (tt, tt)) (get (codes "over") claim)))
      (λ over.
      stops_bind Told (claimed_plan listed claim) _ (told_from_plain listed.names.trades _
      (plan_stops listed trades few_own claim)) (λ plan.
      stops_ok Told (NoPrices plan over)))))

  by_market_kind : (kind : MarketClaimKind) (top claim : Data) → Stops Told (market_claim_by listed kind top claim)
  by_market_kind EquilibriumKind top claim = equilibrium_stops top claim
  by_market_kind BetterKind top claim = better_stops top claim
  by_market_kind ImpossibleKind top claim = impossible_stops top claim
  by_market_kind SupportedKind top claim = supported_stops top claim
  by_market_kind CycleKind top claim = cycle_stops top claim
  by_market_kind SolvedKind top claim = solved_stops claim
  by_market_kind DropsKind top claim = drops_stops top claim
  by_market_kind CompletesKind top claim = completes_stops top claim
  by_market_kind BlocksKind top claim = blocks_stops top claim

  by_firm_kind : (kind : FirmClaimKind) (claim : Data) → Stops Told (firm_claim_by listed kind claim)
  by_firm_kind AcceptedKind claim = accepted_stops claim
  by_firm_kind ExchangeFailsKind claim = failure_stops claim
  by_firm_kind NoPricesKind claim = no_prices_stops claim

  by_kind : (kind : ClaimKind) (top claim : Data) → Stops Told (claim_by listed kind top claim)
  by_kind (OnMarket kind) top claim =
      stops_bind Told (market_claim_by listed kind top claim) _ (by_market_kind kind top claim) (λ read.
      stops_ok Told (on_market read))
  by_kind (OnFirms kind) top claim =
      stops_bind Told (firm_claim_by listed kind claim) _ (by_firm_kind kind claim) (λ read.
      stops_ok Told (on_firms read))

  kind_stops : (claim : Data) → StopsPlainly (kind_of claim)
  unfolding kind_of
  kind_stops claim =
      stops_bind IsPlain (text_at (member_place Answer) (get (codes "answer") claim)) _
      (text_stops (member_place Answer) (tt, (tt, tt)) (get (codes "answer") claim)) (λ answer.
      plain_wanted Shape (member_place Answer) (claim_named answer) refl (tt, (tt, tt)))

  named_stops : (top : Data) → Stops Told (named_claim top)
  unfolding named_claim
  named_stops top =
      stops_bind Told (wanted Shape claim_place (get (codes "claim") top)) _
      (told_from_plain listed.names.trades _ (plain_wanted Shape claim_place (get (codes "claim") top) refl (
        tt,
        tt,
      ))) (λ claim.
      stops_bind Told (object_at claim_place (Some claim)) _
      (told_from_plain listed.names.trades _ (object_at_stops claim_place (tt, tt) (Some claim))) (λ object.
      stops_bind Told (kind_of claim) _ (told_from_plain listed.names.trades _ (kind_stops claim)) (λ kind.
      stops_ok Told (kind, claim))))

  pub claim_stops : (top : Data) → Stops Told (claim_of listed top)
  unfolding claim_of
  claim_stops top = stops_bind Told (named_claim top) _ (named_stops top) (λ named. by_kind named.0 top named.1)
