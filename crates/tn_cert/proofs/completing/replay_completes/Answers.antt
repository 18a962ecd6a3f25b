-- What shows the clauses of `replay_completes` of `src/completing.rt`.
use Rattle.std.proofs.Common.{rules, ◌∙◌, ℕ, ℤ, Some, None, map, sym, ap, subst}
use Rattle.std.proofs.lemmas.Int.{to_z-of_z}
use mir.Syntax.{w128}
use mir.Val.{SFits, to_z}
use Rattle.tn_model.specs.Prices.{price_at}
use Rattle.tn_market.specs.Signed.{signed}
use Rattle.tn_cert.specs.Replays.{FindsLack}
use Rattle.tn_cert.proofs.CompletedLemmas.{agreed, lack_refutes}
use Rattle.tn_cert.proofs.completing.replay_completes.Goals as goal

pub returns-in-Some-2 : goal.returns-in-Some-2
returns-in-Some-2 g c =
    let firms = map g.V.Valuation.firm c.args.market.now.firms in
    let prices = price_at c.args.prices.now in
    let over_fits : SFits w128 c.args.over = c.ranges.over in
    let outcome_fits : SFits w128 c.args.outcome.now.over = search rules in
    let over_is = sym (to_z-of_z w128 c.args.over over_fits) ∙ ap (to_z w128) c.if-over-outcome.false
    ∙ to_z-of_z w128 c.args.outcome.now.over outcome_fits in
    let on_is = c.signed_trades-on.ensures ∙ ap (λ (n : ℕ). signed n c.args.outcome.now.contracts)
    c.trades.ensures.count in
    let lack = subst (λ (scale : ℤ). FindsLack firms c.args.market.now.trades scale c.signed_trades-on.result prices
    c.in_ok-reason.field-0) (to_z-of_z w128 c.args.over over_fits) c.in_ok-reason.ensures in
    let lacks = subst (FindsLack firms c.args.market.now.trades c.args.over c.signed_trades-on.result prices)
    c.in-Some-2.is lack in
    lack_refutes firms c.args.market.now.trades c.args.outcome.now prices c.args.over c.in-Some-2.reason over_is
    c.in_default.ensures
    (subst (λ (on : ℕ). FindsLack firms c.args.market.now.trades c.args.over on prices (Some c.in-Some-2.reason)) on_is
    lacks)

pub returns-in-None : goal.returns-in-None
returns-in-None g c =
    let firms = map g.V.Valuation.firm c.args.market.now.firms in
    let prices = price_at c.args.prices.now in
    let over_fits : SFits w128 c.args.over = c.ranges.over in
    let outcome_fits : SFits w128 c.args.outcome.now.over = search rules in
    let over_is = sym (to_z-of_z w128 c.args.over over_fits) ∙ ap (to_z w128) c.if-over-outcome.false
    ∙ to_z-of_z w128 c.args.outcome.now.over outcome_fits in
    let on_is = c.signed_trades-on.ensures ∙ ap (λ (n : ℕ). signed n c.args.outcome.now.contracts)
    c.trades.ensures.count in
    let lack = subst (λ (scale : ℤ). FindsLack firms c.args.market.now.trades scale c.signed_trades-on.result prices
    c.in_ok-reason.field-0) (to_z-of_z w128 c.args.over over_fits) c.in_ok-reason.ensures in
    let none = subst (FindsLack firms c.args.market.now.trades c.args.over c.signed_trades-on.result prices)
    c.in-None.is lack in (
      over_is,
      record {
        agree = agreed c.args.outcome.now.contracts prices c.in_default.ensures;
        equilibrium =
            subst (λ (on : ℕ). FindsLack firms c.args.market.now.trades c.args.over on prices None) on_is none;
      },
    )
