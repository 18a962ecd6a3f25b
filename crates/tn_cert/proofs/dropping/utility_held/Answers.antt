-- What shows the clauses of `utility_held` of `src/dropping.rt`.
use Rattle.std.proofs.Common.{rules, ◌≡◌, ◌∙◌, ℕ, ℤ, Option, sym, ap, subst, take}
use Rattle.std.proofs.lemmas.Int.{to_z-of_z}
use Rattle.std.proofs.lemmas.Option.{same_Some}
use mir.Syntax.{w128}
use mir.Val.{SFits}
use Rattle.tn_base.specs.Firm.{utility}
use Rattle.tn_model.specs.Prices.{price_at}
use Rattle.tn_market.specs.Signed.{contract_utility}
use Rattle.tn_residual.proofs.HeldLemmas.{held_utility}
use Rattle.tn_cert.proofs.dropping.utility_held.Goals as goal

pub returns-clause-value : goal.returns-clause-value
returns-clause-value g c = λ v is.
    let fits : SFits w128 c.args.outcome.now.over = search rules in
    let holds = c.requires.held c.firm-firm.result.now c.firm-firm.ensures in
    let same = same_Some c.firm-firm.result.now v (sym c.firm-firm.ensures ∙ is) in
    let few = c.requires.limits.few_own c.args.f c.firm-firm.result.now c.firm-firm.ensures in
    subst (λ (w : g.row.V.Denot). c.utility_of.result ≡ contract_utility c.args.market.now.trades
    c.args.outcome.now.over c.args.outcome.now.contracts c.args.f (g.V.Valuation.firm w) c.args.x) same
    (c.utility_of.ensures.value
    ∙ ap (λ (scale : ℤ). utility scale (price_at (take c.trades.result c.args.held.now.prices))
    (g.V.Valuation.firm c.firm-firm.result.now) c.args.x) (to_z-of_z w128 c.args.outcome.now.over fits)
    ∙ ap (λ (u : ℕ → Option ℤ). u c.args.x) (held_utility c.args.market.now.trades c.args.outcome.now.over
    c.args.outcome.now.contracts c.args.f
    (g.V.Valuation.firm c.firm-firm.result.now) c.trades.result c.args.held.now.signed c.args.held.now.prices
    c.trades.ensures.count few holds))
