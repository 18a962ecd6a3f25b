-- What shows the clauses of `is_content` of `src/content.rt`.
use Rattle.std.proofs.Common.{◌+◌, ◌*◌, ◌≤◌, pos, sym, subst, ◌∙◌}
use Rattle.std.proofs.lemmas.Option.{same_Some}
use Rattle.tn_base.specs.Firm.{Firm}
use Rattle.tn_model.specs.Prices.{price_at}
use Rattle.tn_price.proofs.JudgeLemmas.{content_there, firm_is}
use Rattle.tn_price.proofs.content.is_content.Goals as goal

pub returns-clause-content : goal.returns-clause-content
returns-clause-content g c =
    content_there g.V.Valuation.firm c.args.market.now.firms c.args.market.now.trades (pos 1) c.args.on.now
    (price_at c.args.prices.now) c.args.f c.trades-n.result c.bundle_of-own.result c.own_prices-own_prices.result
    c.is_best_by_step.result c.firm-firm.result.now c.firm-firm.ensures c.trades-n.ensures.count
    (c.bundle_of-own.ensures c.firm-firm.result.now c.firm-firm.ensures) c.own_prices-own_prices.ensures
    c.is_best_by_step.ensures.best

pub returns-clause-asked : goal.returns-clause-asked
returns-clause-asked g c = λ firm is.
    let same = same_Some (g.V.Valuation.firm c.firm-firm.result.now) firm
    (sym (firm_is g.V.Valuation.firm c.args.market.now.firms c.args.f c.firm-firm.result.now c.firm-firm.ensures) ∙ is)
    in
    subst (λ (x : Firm). c.is_best_by_step.new.steps ≤ c.args.steps.now + (x.count + 1) * (x.count + 1)) same
    c.is_best_by_step.ensures.asked
