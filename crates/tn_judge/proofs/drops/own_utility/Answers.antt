-- What shows the clauses of `own_utility` of `src/drops.rt`.
use Rattle.std.proofs.Common.{rules, ◌≡◌, ◌∙◌, ◌^◌, ◌<◌, ℕ, ℤ, Option, sym, ap, subst, take}
use Rattle.std.proofs.lemmas.Int.{to_z-of_z}
use Rattle.std.proofs.lemmas.Option.{same_Some}
use mir.Syntax.{w128}
use mir.Val.{SFits}
use Rattle.tn_base.specs.Firm.{utility}
use Rattle.tn_base.proofs.SetLemmas.{set_of_within}
use Rattle.tn_model.specs.Prices.{price_at}
use Rattle.tn_market.specs.Signed.{contract_utility, signed_bundle}
use Rattle.tn_residual.proofs.HeldLemmas.{held_utility}
use Rattle.tn_judge.proofs.drops.own_utility.Goals as goal

pub utility_of-requires-clause-own : goal.utility_of-requires-clause-own
utility_of-requires-clause-own g c =
    let holds = c.signed_by-held.ensures c.firm-firm.result.now c.firm-firm.ensures in
    subst (λ (x : ℕ). x < 2 ^ (g.V.Valuation.firm c.firm-firm.result.now).count) (sym holds.bundle)
    (set_of_within _ (g.V.Valuation.firm c.firm-firm.result.now).count)

pub returns-clause-value : goal.returns-clause-value
returns-clause-value g c = λ v is.
    let fits : SFits w128 c.args.outcome.now.over = search rules in
    let holds = c.signed_by-held.ensures c.firm-firm.result.now c.firm-firm.ensures in
    let same = same_Some c.firm-firm.result.now v (sym c.firm-firm.ensures ∙ is) in
    let few = c.requires.limits.few_own c.args.f c.firm-firm.result.now c.firm-firm.ensures in
    subst (λ (w : g.row.V.Denot). c.utility_of.result ≡ contract_utility c.args.market.now.trades
    c.args.outcome.now.over c.args.outcome.now.contracts c.args.f (g.V.Valuation.firm w)
    (signed_bundle c.args.market.now.trades c.args.outcome.now.contracts c.args.f (g.V.Valuation.firm w))) same
    (c.utility_of.ensures.value
    ∙ ap (λ (scale : ℤ). utility scale (price_at (take c.trades.result c.signed_by-held.result.prices))
    (g.V.Valuation.firm c.firm-firm.result.now) c.signed_by-held.result.signed)
    (to_z-of_z w128 c.args.outcome.now.over fits)
    ∙ ap (λ (u : ℕ → Option ℤ). u c.signed_by-held.result.signed)
    (held_utility c.args.market.now.trades c.args.outcome.now.over c.args.outcome.now.contracts c.args.f
    (g.V.Valuation.firm c.firm-firm.result.now) c.trades.result c.signed_by-held.result.signed
    c.signed_by-held.result.prices c.trades.ensures.count few holds)
    ∙ ap (contract_utility c.args.market.now.trades c.args.outcome.now.over c.args.outcome.now.contracts c.args.f
    (g.V.Valuation.firm c.firm-firm.result.now)) holds.bundle)
