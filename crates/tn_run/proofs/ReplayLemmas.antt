-- A reason against a document's claim speaks only of firms and trades that have a name, and its bundles ascend.
use Rattle.std.proofs.Common.{◌≡◌, ℕ, ◌^◌, ◌<◌, ℤ, pos, List, length, map, refl, sym, subst}
use Rattle.std.specs.Prelude.{Option, Some, All, slice_get}
use Rattle.std.specs.List.Sorted.{IsStrictlyIncreasing}
use Rattle.std.proofs.lemmas.Option.{slice_get_within, get_or_from_slice_get}
use Rattle.std.proofs.lemmas.List.Elements.{All-get_or}
use Rattle.tn_answer.specs.Apart.{IsNamedAnswer}
use Rattle.tn_answer.specs.Kept.{HasAscendingTrades}
use Rattle.tn_answer.specs.ReasonText.{IsNamedReason, HasAscendingBundles}
use Rattle.tn_base.specs.Firm.{Firm}
use Rattle.tn_base.proofs.SetLemmas.{has_below}
use Rattle.tn_cert.specs.Claims.{node_of}
use Rattle.tn_cert.specs.Reasons.{LacksBest, RefutesEquilibrium, RefutesBetter, RefutesCycle, RefutesDrops, RefutesCompletes, RefutesBlocks, IsFirstUnsigned, IsFirstMispriced, Refutes}
use Rattle.tn_cert.specs.Plans.{RefutesPlan}
use Rattle.tn_commands.specs.Replay.{DecidesClaim}
use Rattle.tn_file.specs.declared.command.Command.{Command}
use Rattle.tn_file.specs.Document.{DocumentData}
use Rattle.tn_file.specs.Laws.{IsDocument}
use Rattle.tn_said.specs.Claim.{Claim, on_market, on_firms}
use Rattle.tn_said.specs.declared.claim.MarketClaim.TheVariants.{Equilibrium, Better, Impossible, Supported, Cycle, Solved, Drops, Completes, Blocks}
use Rattle.tn_said.specs.declared.claim.FirmClaim.TheVariants.{Accepted, ExchangeFails, NoPrices}
use Rattle.tn_model.specs.declared.contract.Contract.{Contract}
use Rattle.tn_model.specs.declared.contract.Outcome.{Outcome}
use Rattle.tn_said.specs.declared.part.Part.{Part}
use Rattle.tn_said.specs.declared.reason.Reason.{Reason}
use Rattle.tn_said.specs.declared.reason.Reason.TheVariants.{Impossible as ImpossibleIs, Better as BetterIs, Possible, Surplus, Gain, Exchange, Holds, Arc, Cost, Contract as ContractIs, Over, Price, Empty, Signed, Choice, Shares, Balance, Whole}
use Rattle.tn_said.specs.declared.said.Said.{Said}
use Rattle.tn_said.specs.declared.said.Said.TheVariants.{Valid, Invalid}
use Rattle.tn_model.specs.Prices.{price_at}
use Rattle.tn_said.specs.ClaimLimits.{IsFirmWith, IsClaimWithin, AreOffersWithin}
use Rattle.tn_model.specs.OutcomeLimits.{IsOutcomeWithin}
use Rattle.tn_market.specs.Signed.{signed}
use Rattle.tn_names.specs.Named.{IsNamed}
use Rattle.tn_run.proofs.OwnLemmas.{firm_named, own_named, trade_named, bundle_named, bundle_ascends, failure_named, failure_ascends, set_named, set_ascends}

module _ (command : Command) (doc : DocumentData) (is : IsDocument command doc) where
  -- the claimed firm
  claimed_named : {holds : Firm → Type 0} (f g : ℕ) → g ≡ f → IsFirmWith doc.firms f holds → IsNamed doc.names.firms g
  claimed_named f g same with_firm =
      subst (IsNamed doc.names.firms) (sym same) (firm_named command doc is f with_firm.0 with_firm.1)

  lack_named : (scale : ℤ) (on : ℕ) (prices : ℕ → ℤ) (reason : Reason)
      → LacksBest doc.firms doc.ends scale on prices reason → IsNamedReason doc.names reason
  lack_named scale on prices (ImpossibleIs f) lacks = firm_named command doc is f lacks.firm lacks.is
  lack_named scale on prices (BetterIs f bundle) lacks =
      let first = lacks.2 in (
        firm_named command doc is f first.firm first.is,
        subst (All (IsNamed doc.names.trades)) (sym lacks.3) (bundle_named command doc is f first.firm lacks.0 first.is),
      )
  lack_named scale on prices reason lacks = absurd lacks

  equilibrium_named : (on : ℕ) (prices : ℕ → ℤ) (claimed : ℤ) (reason : Reason)
      → RefutesEquilibrium doc.firms doc.ends on prices claimed reason → IsNamedReason doc.names reason
  equilibrium_named on prices claimed (Surplus surplus) refutes = tt
  equilibrium_named on prices claimed reason refutes = lack_named (pos 1) on prices reason refutes

  better_named : (on : ℕ) (prices : ℕ → ℤ) (f x : ℕ) (claimed : ℤ) (reason : Reason)
      → RefutesBetter doc.firms doc.ends on prices f x claimed reason → IsNamedReason doc.names reason
  better_named on prices f x claimed (ImpossibleIs g) refutes = claimed_named f g refutes.0 refutes.1
  better_named on prices f x claimed (Gain g (Some gain)) refutes = claimed_named f g refutes.0 refutes.1
  better_named on prices f x claimed reason refutes = absurd refutes

  cycle_named : (on : ℕ) (nodes : List ℕ) (claimed : ℤ) (reason : Reason)
      → RefutesCycle doc.firms doc.ends on nodes claimed reason → IsNamedReason doc.names reason
  cycle_named on nodes claimed (ImpossibleIs f) refutes = firm_named command doc is f refutes.firm refutes.is
  cycle_named on nodes claimed (Arc index) refutes = tt
  cycle_named on nodes claimed (Cost cost) refutes = tt
  cycle_named on nodes claimed reason refutes = absurd refutes

  unsigned_named : (outcome : Outcome) (f keeps t : ℕ) → IsFirmWith doc.firms f (λ firm. keeps < 2 ^ firm.count)
      → IsFirstUnsigned doc.ends outcome f keeps t → IsNamed doc.names.trades t
  unsigned_named outcome f keeps t own_firm unsigned =
      subst (IsNamed doc.names.trades) unsigned.is
      (own_named command doc is f own_firm.0 own_firm.1 unsigned.at
      (has_below keeps own_firm.0.count unsigned.at own_firm.2 unsigned.member))

  drops_named : (outcome : Outcome) (f keeps : ℕ) (claimed : Option ℤ) (over : ℤ) (reason : Reason)
      → IsFirmWith doc.firms f (λ firm. keeps < 2 ^ firm.count)
      → RefutesDrops doc.firms doc.ends outcome f keeps claimed over reason → IsNamedReason doc.names reason
  drops_named outcome f keeps claimed over (Over told) own_firm refutes = tt
  drops_named outcome f keeps claimed over (ContractIs t) own_firm refutes =
      unsigned_named outcome f keeps t own_firm refutes.1
  drops_named outcome f keeps claimed over (ImpossibleIs g) own_firm refutes = claimed_named f g refutes.2 refutes.3
  drops_named outcome f keeps claimed over (Gain g gain) own_firm refutes = claimed_named f g refutes.2 refutes.3
  drops_named outcome f keeps claimed over reason own_firm refutes = absurd refutes

  mispriced_named : (outcome : Outcome) (prices : ℕ → ℤ) (t : ℕ) → IsOutcomeWithin (length doc.ends) outcome
      → IsFirstMispriced outcome.contracts prices t → IsNamed doc.names.trades t
  mispriced_named outcome prices t within mispriced =
      let known = All-get_or (λ (contract : Contract). contract.trade < length doc.ends) outcome.contracts mispriced.at
      mispriced.contract (slice_get_within outcome.contracts mispriced.at mispriced.contract mispriced.is)
      within.contracts.known in
      trade_named command doc is t
      (subst (λ n. n < length doc.ends) mispriced.trade
      (subst (λ (contract : Contract). contract.trade < length doc.ends)
      (get_or_from_slice_get outcome.contracts mispriced.at mispriced.contract mispriced.contract mispriced.is)
      known))

  completes_named : (outcome : Outcome) (prices : ℕ → ℤ) (over : ℤ) (reason : Reason)
      → IsOutcomeWithin (length doc.ends) outcome
      → RefutesCompletes doc.firms doc.ends outcome prices over reason → IsNamedReason doc.names reason
  completes_named outcome prices over (Over told) within refutes = tt
  completes_named outcome prices over (Price t) within refutes = mispriced_named outcome prices t within refutes.1
  completes_named outcome prices over reason within refutes =
      lack_named over (signed (length doc.ends) outcome.contracts) prices reason refutes.2

  offer_named : (offers : List Contract) (k t : ℕ) (offer : Contract) → AreOffersWithin doc.ends offers
      → slice_get offers k ≡ Some offer → offer.trade ≡ t → IsNamed doc.names.trades t
  offer_named offers k t offer within at same =
      subst (IsNamed doc.names.trades) same (trade_named command doc is offer.trade (within.feasible.known k offer at))

  blocks_named : (outcome : Outcome) (offers : List Contract) (e : ℤ) (reason : Reason)
      → AreOffersWithin doc.ends offers
      → RefutesBlocks doc.firms doc.ends outcome offers e reason → IsNamedReason doc.names reason
  blocks_named outcome offers e Empty within refutes = tt
  blocks_named outcome offers e (Signed t) within refutes =
      offer_named offers refutes.at t refutes.offer within refutes.is refutes.trade
  blocks_named outcome offers e (Choice f t) within refutes =
      let leaves = refutes.2 in (
        firm_named command doc is f leaves.firm leaves.is,
        offer_named offers leaves.at t leaves.offer within leaves.offered leaves.trade,
      )
  blocks_named outcome offers e reason within refutes = absurd refutes

  plan_named : (plan : List Part) (over : ℤ) (reason : Reason) → RefutesPlan doc.firms doc.ends plan over reason
      → IsNamedReason doc.names reason
  plan_named plan over (Shares f) refutes = subst (λ n. f < n) (sym is.firms_named) refutes.0
  plan_named plan over (ImpossibleIs f) refutes = claimed_named f f refl refutes.2
  plan_named plan over (Balance t) refutes = trade_named command doc is t (slice_get_within doc.ends t refutes.3 refutes.4)
  plan_named plan over (Whole on surplus) refutes = let whole = refutes.3 in
      set_named command doc is whole.on on whole.listed_is
  plan_named plan over reason refutes = absurd refutes

  reason_named : (claim : Claim) (reason : Reason) → IsClaimWithin doc.firms doc.ends claim
      → Refutes doc.firms doc.ends claim reason → IsNamedReason doc.names reason
  reason_named (on_market (Equilibrium at surplus)) reason within refutes =
      equilibrium_named at.on (price_at at.prices) surplus reason refutes
  reason_named (on_market (Solved at surplus)) reason within refutes =
      equilibrium_named at.on (price_at at.prices) surplus reason refutes
  reason_named (on_market (Supported on prices)) reason within refutes = lack_named (pos 1) on (price_at prices) reason refutes
  reason_named (on_market (Better at f x gain)) reason within refutes =
      better_named at.on (price_at at.prices) f x gain reason refutes
  reason_named (on_market (Impossible on f)) (Possible g) within refutes = claimed_named f g refutes.0 refutes.1
  reason_named (on_market (Impossible on f)) reason within refutes = absurd refutes
  reason_named (on_market (Cycle on nodes cost)) reason within refutes =
      cycle_named on (map (node_of (length doc.ends)) nodes) cost reason refutes
  reason_named (on_market (Drops outcome f keeps gain over)) reason within refutes =
      drops_named outcome f keeps gain over reason within.1 refutes
  reason_named (on_market (Completes outcome prices over)) reason within refutes =
      completes_named outcome (price_at prices) over reason within.0 refutes
  reason_named (on_market (Blocks outcome contracts over)) reason within refutes =
      blocks_named outcome contracts over reason within.1 refutes
  reason_named (on_firms (NoPrices plan over)) reason within refutes = plan_named plan over reason refutes
  reason_named (on_firms Accepted) (Exchange f x y at) within refutes = failure_named command doc is f x y at refutes
  reason_named (on_firms Accepted) reason within refutes = absurd refutes
  reason_named (on_firms (ExchangeFails f x y at)) Holds within refutes = tt
  reason_named (on_firms (ExchangeFails f x y at)) reason within refutes = absurd refutes

  pub decided_named : (claim : Claim) (said : Said) → IsClaimWithin doc.firms doc.ends claim
      → DecidesClaim doc.firms doc.ends claim said → IsNamedAnswer doc.names said
  decided_named claim Valid within decides = tt
  decided_named claim (Invalid reason) within decides = reason_named claim reason within decides
  decided_named claim said within decides = absurd decides

  -- the bundles of a reason ascend
  better_ascends : (scale : ℤ) (on : ℕ) (prices : ℕ → ℤ) (f : ℕ) (bundle : List ℕ)
      → LacksBest doc.firms doc.ends scale on prices (BetterIs f bundle) → IsStrictlyIncreasing bundle
  better_ascends scale on prices f bundle lacks = let first = lacks.2 in
      subst IsStrictlyIncreasing (sym lacks.3) (bundle_ascends command doc is f first.firm lacks.0 first.is)

  better_reason : (claim : Claim) (f : ℕ) (bundle : List ℕ) → Refutes doc.firms doc.ends claim (BetterIs f bundle)
      → IsStrictlyIncreasing bundle
  better_reason (on_market (Equilibrium at surplus)) f bundle refutes =
      better_ascends (pos 1) at.on (price_at at.prices) f bundle refutes
  better_reason (on_market (Solved at surplus)) f bundle refutes =
      better_ascends (pos 1) at.on (price_at at.prices) f bundle refutes
  better_reason (on_market (Supported on prices)) f bundle refutes = better_ascends (pos 1) on (price_at prices) f bundle refutes
  better_reason (on_market (Completes outcome prices over)) f bundle refutes =
      better_ascends over (signed (length doc.ends) outcome.contracts) (price_at prices) f bundle refutes.2
  better_reason (on_market (Better at g x gain)) f bundle refutes = absurd refutes
  better_reason (on_market (Impossible on g)) f bundle refutes = absurd refutes
  better_reason (on_market (Cycle on nodes cost)) f bundle refutes = absurd refutes
  better_reason (on_market (Drops outcome g keeps gain over)) f bundle refutes = absurd refutes
  better_reason (on_market (Blocks outcome contracts over)) f bundle refutes = absurd refutes
  better_reason (on_firms (NoPrices plan over)) f bundle refutes = absurd refutes
  better_reason (on_firms Accepted) f bundle refutes = absurd refutes
  better_reason (on_firms (ExchangeFails g x y at)) f bundle refutes = absurd refutes

  exchange_reason : (claim : Claim) (f : ℕ) (x y : List ℕ) (at : Option ℕ)
      → Refutes doc.firms doc.ends claim (Exchange f x y at) → HasAscendingBundles (Exchange f x y at)
  exchange_reason (on_firms Accepted) f x y at refutes = failure_ascends command doc is f x y at refutes
  exchange_reason (on_market (Equilibrium arranged surplus)) f x y at refutes = absurd refutes
  exchange_reason (on_market (Solved arranged surplus)) f x y at refutes = absurd refutes
  exchange_reason (on_market (Supported on prices)) f x y at refutes = absurd refutes
  exchange_reason (on_market (Completes outcome prices over)) f x y at refutes = absurd refutes.2
  exchange_reason (on_market (Better arranged g bundle gain)) f x y at refutes = absurd refutes
  exchange_reason (on_market (Impossible on g)) f x y at refutes = absurd refutes
  exchange_reason (on_market (Cycle on nodes cost)) f x y at refutes = absurd refutes
  exchange_reason (on_market (Drops outcome g keeps gain over)) f x y at refutes = absurd refutes
  exchange_reason (on_market (Blocks outcome contracts over)) f x y at refutes = absurd refutes
  exchange_reason (on_firms (ExchangeFails g one other position)) f x y at refutes = absurd refutes
  exchange_reason (on_firms (NoPrices plan over)) f x y at refutes = absurd refutes

  whole_reason : (claim : Claim) (on : List ℕ) (surplus : ℤ) → Refutes doc.firms doc.ends claim (Whole on surplus)
      → IsStrictlyIncreasing on
  whole_reason (on_firms (NoPrices plan over)) on surplus refutes = let whole = refutes.3 in
      set_ascends command doc is whole.on on whole.listed_is
  whole_reason (on_market (Equilibrium at told)) on surplus refutes = absurd refutes
  whole_reason (on_market (Solved at told)) on surplus refutes = absurd refutes
  whole_reason (on_market (Supported set prices)) on surplus refutes = absurd refutes
  whole_reason (on_market (Completes outcome prices over)) on surplus refutes = absurd refutes.2
  whole_reason (on_market (Better at f x gain)) on surplus refutes = absurd refutes
  whole_reason (on_market (Impossible set f)) on surplus refutes = absurd refutes
  whole_reason (on_market (Cycle set nodes cost)) on surplus refutes = absurd refutes
  whole_reason (on_market (Drops outcome f keeps gain over)) on surplus refutes = absurd refutes
  whole_reason (on_market (Blocks outcome contracts over)) on surplus refutes = absurd refutes
  whole_reason (on_firms Accepted) on surplus refutes = absurd refutes
  whole_reason (on_firms (ExchangeFails f x y at)) on surplus refutes = absurd refutes

  reason_ascends : (claim : Claim) (reason : Reason) → Refutes doc.firms doc.ends claim reason
      → HasAscendingBundles reason
  reason_ascends claim (BetterIs f bundle) refutes = better_reason claim f bundle refutes
  reason_ascends claim (Exchange f x y at) refutes = exchange_reason claim f x y at refutes
  reason_ascends claim (Whole on surplus) refutes = whole_reason claim on surplus refutes
  reason_ascends claim (ImpossibleIs f) refutes = tt
  reason_ascends claim (Possible f) refutes = tt
  reason_ascends claim (Surplus surplus) refutes = tt
  reason_ascends claim (Gain f gain) refutes = tt
  reason_ascends claim Holds refutes = tt
  reason_ascends claim (Arc index) refutes = tt
  reason_ascends claim (Cost cost) refutes = tt
  reason_ascends claim (ContractIs t) refutes = tt
  reason_ascends claim (Over over) refutes = tt
  reason_ascends claim (Price t) refutes = tt
  reason_ascends claim Empty refutes = tt
  reason_ascends claim (Signed t) refutes = tt
  reason_ascends claim (Choice f t) refutes = tt
  reason_ascends claim (Shares f) refutes = tt
  reason_ascends claim (Balance t) refutes = tt

  pub decided_ascends : (claim : Claim) (said : Said) → DecidesClaim doc.firms doc.ends claim said
      → HasAscendingTrades said
  decided_ascends claim Valid decides = tt
  decided_ascends claim (Invalid reason) decides = reason_ascends claim reason decides
  decided_ascends claim said decides = absurd decides
