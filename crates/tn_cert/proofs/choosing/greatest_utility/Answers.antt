-- What shows the clauses of `greatest_utility` of `src/choosing.rt`.
use Rattle.std.proofs.Common.{rules, ◌∙◌, ℤ, map, take, sym, subst}
use Rattle.std.proofs.lemmas.Int.{to_z-of_z}
use Rattle.std.proofs.lemmas.Option.{same_Some}
use mir.Syntax.{w128}
use mir.Val.{SFits, to_z, of_z}
use Rattle.tn_base.specs.Firm.{utility}
use Rattle.tn_model.specs.Prices.{price_at}
use Rattle.tn_market.specs.Best.{IsBestBetween}
use Rattle.tn_cert.specs.Greatest.{IsGreatest}
use Rattle.tn_cert.proofs.KeptLemmas.{listed}
use Rattle.tn_cert.proofs.ChoiceLemmas.{greatest_from_best}
use Rattle.tn_cert.proofs.choosing.greatest_utility.Goals as goal

pub best_from-best-requires-clause-own : goal.best_from-best-requires-clause-own
best_from-best-requires-clause-own g c =
    let holds = c.terms_of-terms.ensures c.firm-firm.result.now c.firm-firm.ensures in
    holds.within

pub returns-clause-greatest : goal.returns-clause-greatest
returns-clause-greatest g c = λ v is.
    let fits : SFits w128 c.args.scale = c.ranges.scale in
    let value_fits : SFits w128 c.best_from-best.result.1 = search rules in
    let firms = map g.V.Valuation.firm c.args.market.now.firms in
    let now = c.firm-firm.result.now in
    let best = subst (λ (scale : ℤ). IsBestBetween 0 c.terms_of-terms.result.free
    (utility scale (price_at (take c.trades.result c.terms_of-terms.result.prices)) (g.V.Valuation.firm now))
    c.best_from-best.result.0 c.best_from-best.result.1)
    (to_z-of_z w128 c.args.scale fits) c.best_from-best.ensures.best.best in
    let greatest = greatest_from_best firms c.args.market.now.trades c.args.scale c.args.f (g.V.Valuation.firm now)
    (record {
      network = c.requires.network;
      is =
          listed g.V.Valuation.firm c.args.market.now.firms c.args.f now c.firm-firm.ensures;
    })
    c.args.contracts.now c.args.left_out c.terms_of-terms.result.free c.trades.result c.best_from-best.result.0
    c.terms_of-terms.result.prices c.best_from-best.result.1
    c.trades.ensures.count (c.terms_of-terms.ensures now c.firm-firm.ensures) best in
    subst (λ (w : g.row.V.Denot). IsGreatest c.args.market.now.trades c.args.scale c.args.f (g.V.Valuation.firm w)
    c.args.contracts.now c.args.left_out (to_z w128 (of_z w128 c.best_from-best.result.1)))
    (same_Some now v (sym c.firm-firm.ensures ∙ is))
    (subst (IsGreatest c.args.market.now.trades c.args.scale c.args.f (g.V.Valuation.firm now) c.args.contracts.now
    c.args.left_out) (sym (to_z-of_z w128 c.best_from-best.result.1 value_fits)) greatest)
