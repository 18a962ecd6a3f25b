-- A claim with a reason against it isn't valid.
use Rattle.std.proofs.Common.{List, length, map, pos}
use Rattle.tn_base.specs.Firm.{Firm}
use Rattle.tn_said.specs.Claim.{Claim, on_market, on_firms}
use Rattle.tn_said.specs.declared.claim.MarketClaim.TheVariants.{Equilibrium, Better, Impossible, Supported, Cycle, Solved, Drops, Completes, Blocks}
use Rattle.tn_said.specs.declared.claim.FirmClaim.TheVariants.{Accepted, ExchangeFails, NoPrices}
use Rattle.tn_model.specs.declared.ends.Ends.{Ends}
use Rattle.tn_said.specs.declared.reason.Reason.{Reason}
use Rattle.tn_model.specs.Prices.{price_at}
use Rattle.tn_cert.specs.Claims.{IsValid, node_of}
use Rattle.tn_cert.specs.Reasons.{Refutes}
use Rattle.tn_cert.proofs.RefutedLemmas.{lack_refuted, equilibrium_refuted, better_refuted, impossible_refuted, cycle_refuted, accepted_refuted, failure_refuted}
use Rattle.tn_cert.proofs.PlanRefuted.{plan_refuted}
use Rattle.tn_cert.proofs.OutcomeRefuted.{drops_refuted, completes_refuted, blocks_refuted}

pub refuted : (firms : List Firm) (trades : List Ends) (claim : Claim) (reason : Reason)
    → Refutes firms trades claim reason → IsValid firms trades claim → ⊥
refuted firms trades (on_market (Equilibrium at surplus)) reason =
    equilibrium_refuted firms trades at.on (price_at at.prices) surplus reason
refuted firms trades (on_market (Solved at surplus)) reason =
    equilibrium_refuted firms trades at.on (price_at at.prices) surplus reason
refuted firms trades (on_market (Supported on prices)) reason = lack_refuted firms trades (pos 1) on (price_at prices) reason
refuted firms trades (on_market (Better at f x gain)) reason =
    better_refuted firms trades at.on (price_at at.prices) f x gain reason
refuted firms trades (on_market (Impossible on f)) reason = impossible_refuted firms trades on f reason
refuted firms trades (on_market (Cycle on nodes cost)) reason =
    cycle_refuted firms trades on (map (node_of (length trades)) nodes) cost reason
refuted firms trades (on_market (Drops outcome f keeps gain over)) reason =
    drops_refuted firms trades outcome f keeps gain over reason
refuted firms trades (on_market (Completes outcome prices over)) reason = completes_refuted firms trades outcome prices over reason
refuted firms trades (on_market (Blocks outcome contracts over)) reason = blocks_refuted firms trades outcome contracts over reason
refuted firms trades (on_firms Accepted) reason = accepted_refuted firms trades reason
refuted firms trades (on_firms (ExchangeFails f x y at)) reason = failure_refuted firms trades f x y at reason
refuted firms trades (on_firms (NoPrices plan over)) reason = plan_refuted firms trades plan over reason
