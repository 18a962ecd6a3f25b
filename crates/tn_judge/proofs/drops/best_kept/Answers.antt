-- What shows the clauses of `best_kept` of `src/drops.rt`.
use Rattle.std.proofs.Common.{rules, ◌∙◌, ◌^◌, ◌<◌, ℕ, ℤ, Option, sym, subst, take}
use Rattle.std.proofs.lemmas.Int.{to_z-of_z}
use Rattle.std.proofs.lemmas.Option.{same_Some}
use mir.Syntax.{w128}
use mir.Val.{SFits}
use Rattle.tn_base.specs.Firm.{utility}
use Rattle.tn_base.proofs.SetLemmas.{set_of_within}
use Rattle.tn_model.specs.Prices.{price_at}
use Rattle.tn_market.specs.Best.{IsBestBetween}
use Rattle.tn_market.specs.Signed.{contract_utility, signed_bundle}
use Rattle.tn_residual.proofs.HeldLemmas.{held_utility}
use Rattle.tn_judge.proofs.drops.best_kept.Goals as goal

pub best_from-requires-clause-own : goal.best_from-requires-clause-own
best_from-requires-clause-own g c =
    let holds = c.signed_by-held.ensures c.firm-firm.result.now c.firm-firm.ensures in
    subst (λ (x : ℕ). x < 2 ^ (g.V.Valuation.firm c.firm-firm.result.now).count) (sym holds.bundle)
    (set_of_within _ (g.V.Valuation.firm c.firm-firm.result.now).count)

pub returns-clause-best : goal.returns-clause-best
returns-clause-best g c = λ v is.
    let fits : SFits w128 c.args.outcome.now.over = search rules in
    let now = c.firm-firm.result.now in
    let firm = g.V.Valuation.firm now in
    let holds = c.signed_by-held.ensures now c.firm-firm.ensures in
    let few = c.requires.limits.few_own c.args.f now c.firm-firm.ensures in
    let trades = c.args.market.now.trades in
    let over = c.args.outcome.now.over in
    let contracts = c.args.outcome.now.contracts in
    let found = c.best_from.result in
    let at_scale =
    subst (λ (scale : ℤ). IsBestBetween 0 c.signed_by-held.result.signed
    (utility scale (price_at (take c.trades.result c.signed_by-held.result.prices)) firm) found.0 found.1)
    (to_z-of_z w128 over fits) c.best_from.ensures.best.best in
    let at_contracts = subst (λ (u : ℕ → Option ℤ). IsBestBetween 0 c.signed_by-held.result.signed u found.0 found.1)
    (held_utility trades over contracts c.args.f firm c.trades.result c.signed_by-held.result.signed
    c.signed_by-held.result.prices c.trades.ensures.count few holds) at_scale in
    let signed =
    subst (λ (x : ℕ). IsBestBetween 0 x (contract_utility trades over contracts c.args.f firm) found.0 found.1)
    holds.bundle at_contracts in
    subst (λ (w : g.row.V.Denot). IsBestBetween 0 (signed_bundle trades contracts c.args.f (g.V.Valuation.firm w))
    (contract_utility trades over contracts c.args.f (g.V.Valuation.firm w)) found.0 found.1)
    (same_Some now v (sym c.firm-firm.ensures ∙ is)) signed
