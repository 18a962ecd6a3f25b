-- What shows the clauses of `greatest_from` of `src/firm.rt`.
use Rattle.std.proofs.Common.{◌∙◌, subst, ap, ℤ, true}
use Rattle.std.proofs.lemmas.Int.{to_z-of_z}
use mir.Syntax.{w128}
use mir.Val.{SFits}
use Rattle.tn_base.specs.Sets.{set_of}
use Rattle.tn_base.specs.Firm.{utility}
use Rattle.tn_model.specs.Prices.{price_at}
use Rattle.tn_market.specs.BestFrom.{IsBestFrom}
use Rattle.tn_market.proofs.AskLemmas.{all_within, greatest_is_best, best_is_greatest}
use Rattle.tn_price.proofs.firm.greatest_from.Goals as goal

pub best_from-requires-clause-own : goal.best_from-requires-clause-own
best_from-requires-clause-own g c =
    all_within c.all_positions-all.result (g.V.Valuation.firm c.args.firm.now).count (c.all_positions-all.ensures
    ∙ ap (set_of (λ k. true)) c.trades.ensures.count)

pub returns-clause-best : goal.returns-clause-best
returns-clause-best g c =
    let firm = g.V.Valuation.firm c.args.firm.now in
    let fits : SFits w128 c.args.scale = c.ranges.scale in
    let found = subst (λ (scale : ℤ). IsBestFrom c.args.from c.all_positions-all.result
    (utility scale (price_at c.args.prices.now) firm) c.best_from.result)
    (to_z-of_z w128 c.args.scale fits) c.best_from.ensures.best in
    greatest_is_best firm c.args.scale (price_at c.args.prices.now) c.all_positions-all.result c.best_from.result.0
    c.best_from.result.1
    (g.met.V.Valuation.lawful c.args.firm.now).own_bundles (c.all_positions-all.ensures
    ∙ ap (set_of (λ k. true)) c.trades.ensures.count) found.best

pub returns-clause-kept : goal.returns-clause-kept
returns-clause-kept g c = λ value best.
    let firm = g.V.Valuation.firm c.args.firm.now in
    let fits : SFits w128 c.args.scale = c.ranges.scale in
    let found = subst (λ (scale : ℤ). IsBestFrom c.args.from c.all_positions-all.result
    (utility scale (price_at c.args.prices.now) firm) c.best_from.result)
    (to_z-of_z w128 c.args.scale fits) c.best_from.ensures.best in
    found.kept value (best_is_greatest firm c.args.scale (price_at c.args.prices.now) c.all_positions-all.result
    c.args.from value
    (g.met.V.Valuation.lawful c.args.firm.now).own_bundles (c.all_positions-all.ensures
    ∙ ap (set_of (λ k. true)) c.trades.ensures.count) best)
