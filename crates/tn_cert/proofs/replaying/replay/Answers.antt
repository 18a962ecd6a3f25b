-- What shows the clauses of `replay` of `src/replaying.rt`.
use Rattle.std.proofs.Common.{◌^◌, ◌<◌, subst, sym, map, inl, inr, rules, ℤ}
use Rattle.std.specs.Prelude.{IfOk}
use Rattle.std.proofs.lemmas.Int.{to_z-of_z}
use mir.Syntax.{w128}
use mir.Val.{SFits}
use Rattle.tn_said.specs.Claim.{on_market}
use Rattle.tn_said.specs.declared.claim.MarketClaim.{MarketClaim}
use Rattle.tn_said.specs.declared.claim.MarketClaim.TheVariants.{Equilibrium}
use Rattle.tn_said.specs.ClaimLimits.{IsClaimWithin}
use Rattle.tn_cert.specs.Replays.{Replays}
use Rattle.tn_cert.proofs.ReplayLemmas.{solved_if_ok}
use Rattle.tn_cert.proofs.UtilityLemmas.{firm_has}
use Rattle.tn_cert.proofs.WeighLemmas.{within_firms}
use Rattle.tn_cert.proofs.replaying.replay.Goals as goal

pub replay_drops-requires-clause-outcome : goal.replay_drops-requires-clause-outcome
replay_drops-requires-clause-outcome g c =
    let within =
    subst (λ (claim : MarketClaim). IsClaimWithin (map g.V.Valuation.firm c.args.market.now.firms)
    c.args.market.now.trades (on_market claim)) c.in-Drops.is c.requires.within in
    within.0

pub replay_drops-requires-clause-firm : goal.replay_drops-requires-clause-firm
replay_drops-requires-clause-firm g c =
    let within =
    subst (λ (claim : MarketClaim). IsClaimWithin (map g.V.Valuation.firm c.args.market.now.firms)
    c.args.market.now.trades (on_market claim)) c.in-Drops.is c.requires.within in
    within_firms g.V.Valuation.firm c.args.market.now.firms c.in-Drops.firm within.1.0 within.1.1

pub replay_drops-requires-clause-own : goal.replay_drops-requires-clause-own
replay_drops-requires-clause-own g c =
    let within =
    subst (λ (claim : MarketClaim). IsClaimWithin (map g.V.Valuation.firm c.args.market.now.firms)
    c.args.market.now.trades (on_market claim)) c.in-Drops.is c.requires.within in
    λ v is. firm_has g.V.Valuation.firm c.args.market.now.firms c.in-Drops.firm v (λ it. c.in-Drops.keeps
    < 2 ^ it.count) is within.1

pub replay_blocks-requires-clause-outcome : goal.replay_blocks-requires-clause-outcome
replay_blocks-requires-clause-outcome g c =
    let within =
    subst (λ (claim : MarketClaim). IsClaimWithin (map g.V.Valuation.firm c.args.market.now.firms)
    c.args.market.now.trades (on_market claim)) c.in-Blocks.is c.requires.within in
    within.0

pub replay_completes-requires-clause-outcome : goal.replay_completes-requires-clause-outcome
replay_completes-requires-clause-outcome g c =
    let within =
    subst (λ (claim : MarketClaim). IsClaimWithin (map g.V.Valuation.firm c.args.market.now.firms)
    c.args.market.now.trades (on_market claim)) c.in-Completes.is c.requires.within in
    within.0

pub returns-in-Equilibrium : goal.returns-in-Equilibrium
returns-in-Equilibrium g c =
    let firms = map g.V.Valuation.firm c.args.market.now.firms in
    let trades = c.args.market.now.trades in
    let replays = λ (claim : MarketClaim). IfOk c.replay_equilibrium.result (Replays firms trades (on_market claim)) in
    let fits : SFits w128 c.in-Equilibrium.surplus = search rules in
    let ensured =
    subst (λ (surplus : ℤ). replays (Equilibrium c.in-Equilibrium.at surplus))
    (to_z-of_z w128 c.in-Equilibrium.surplus fits) c.replay_equilibrium.ensures in
    elim c.in-Equilibrium.is [
      | inl e ↦ subst replays (sym e) ensured
      | inr e ↦ subst replays (sym e) (solved_if_ok firms trades c.in-Equilibrium.at c.in-Equilibrium.surplus
          c.replay_equilibrium.result ensured)
    ]
