-- What shows the clauses of `gain_by` of `src/utilities.rt`.
use Rattle.std.proofs.Common.{◌^◌, ◌<◌, sym, subst, map, ◌∙◌, ℤ, Some}
use Rattle.tn_model.specs.Prices.{price_at}
use Rattle.tn_price.proofs.JudgeLemmas.{part_within}
use Rattle.tn_cert.specs.Replays.{TellsGain}
use Rattle.tn_cert.proofs.UtilityLemmas.{firm_has, gain_told, gain_as_is, own_impossible, other_impossible}
use Rattle.tn_cert.proofs.utilities.gain_by.Goals as goal

pub utility_of-requires-clause-own : goal.utility_of-requires-clause-own
utility_of-requires-clause-own g c =
    part_within c.args.market.now.trades c.args.f (g.V.Valuation.firm c.firm-firm.result.now).count c.args.at.now.on
    c.bundle_of-held.result
    (c.bundle_of-held.ensures c.firm-firm.result.now c.firm-firm.ensures)

pub utility_of-requires-2-clause-own : goal.utility_of-requires-2-clause-own
utility_of-requires-2-clause-own g c =
    firm_has g.V.Valuation.firm c.args.market.now.firms c.args.f c.firm-firm.result.now (λ it. c.args.other
    < 2 ^ it.count) c.firm-firm.ensures c.requires.own

pub returns-in_err-value : goal.returns-in_err-value
returns-in_err-value g c =
    subst (TellsGain (map g.V.Valuation.firm c.args.market.now.firms) c.args.market.now.trades c.args.at.now.on
    (price_at c.args.at.now.prices) c.args.f c.args.other) (sym c.from_residual.ensures)
    (own_impossible g.V.Valuation.firm c.args.market.now.firms c.args.market.now.trades c.args.at.now.on
    (price_at c.args.at.now.prices) c.args.f c.trades-n.result c.bundle_of-held.result
    c.own_prices-prices.result c.firm-firm.result.now c.args.other
    (record {
      is = c.firm-firm.ensures;
      counted = c.trades-n.ensures.count;
      held_is =
          c.bundle_of-held.ensures c.firm-firm.result.now c.firm-firm.ensures;
      listed = c.own_prices-prices.ensures;
    })
    (sym c.utility_of.ensures.value ∙ c.in_err-value.was))

pub returns-in_err-other_value : goal.returns-in_err-other_value
returns-in_err-other_value g c =
    subst (TellsGain (map g.V.Valuation.firm c.args.market.now.firms) c.args.market.now.trades c.args.at.now.on
    (price_at c.args.at.now.prices) c.args.f c.args.other)
    (sym c.from_residual-in_err-other_value.ensures)
    (other_impossible g.V.Valuation.firm c.args.market.now.firms c.args.market.now.trades c.args.at.now.on
    (price_at c.args.at.now.prices) c.args.f c.trades-n.result c.bundle_of-held.result
    c.own_prices-prices.result c.firm-firm.result.now c.args.other
    (record {
      is = c.firm-firm.ensures;
      counted = c.trades-n.ensures.count;
      held_is =
          c.bundle_of-held.ensures c.firm-firm.result.now c.firm-firm.ensures;
      listed = c.own_prices-prices.ensures;
    })
    (sym c.utility_of-2.ensures.value ∙ c.in_err-other_value.was))

pub returns : goal.returns
returns g c =
    let told = gain_told g.V.Valuation.firm c.args.market.now.firms c.args.market.now.trades c.args.at.now.on
    (price_at c.args.at.now.prices) c.args.f c.trades-n.result c.bundle_of-held.result
    c.own_prices-prices.result c.firm-firm.result.now c.args.other c.in_ok-value.value c.in_ok-other_value.other_value
    (record {
      is = c.firm-firm.ensures;
      counted = c.trades-n.ensures.count;
      held_is =
          c.bundle_of-held.ensures c.firm-firm.result.now c.firm-firm.ensures;
      listed = c.own_prices-prices.ensures;
    })
    (sym c.utility_of.ensures.value ∙ c.in_ok-value.was) (sym c.utility_of-2.ensures.value ∙ c.in_ok-other_value.was) in
    subst (λ (gain : ℤ). TellsGain (map g.V.Valuation.firm c.args.market.now.firms) c.args.market.now.trades
    c.args.at.now.on (price_at c.args.at.now.prices) c.args.f c.args.other (Some gain))
    (sym (gain_as_is c.in_ok-value.value c.in_ok-other_value.other_value c.in_ok-value.ensures.small
    c.in_ok-other_value.ensures.small)) told
