-- What shows the clauses of `best_by_ascent_from` of `src/ascent.rt`.
use Rattle.std.proofs.Common.{rules, ◌+◌, ◌*◌, ◌^◌, ◌<◌, ℕ, ℤ, Some, sym, subst}
use Rattle.std.proofs.lemmas.Int.{to_z-of_z}
use mir.Syntax.{w128}
use mir.Val.{SFits}
use Rattle.tn_base.specs.Arcs.{IsAtMost}
use Rattle.tn_base.specs.Firm.{IsBest, utility}
use Rattle.tn_model.specs.Prices.{price_at}
use Rattle.tn_market.specs.Best.{IsBestBetween}
use Rattle.tn_market.specs.Ascent.{AsksFew, aimed, StaysAt}
use Rattle.tn_market.proofs.BonusLemmas.{IsQuestion, beside_none, plain_best, best_plain, plain_small}
use Rattle.tn_market.specs.Widths.{most_utility}
use Rattle.tn_market.proofs.ascent.best_by_ascent_from.Goals as goal

pub returns : goal.returns
returns g c =
    let firm = g.V.Valuation.firm c.args.firm.now in
    let question : IsQuestion firm (g.V.Valuation.limit c.args.firm.now) c.empty.result c.args.allowed c.args.scale
    c.args.prices.now c.gains-gains.result = record {
      own = subst (λ (x : ℕ). x < 2 ^ firm.count) (sym (beside_none c.empty.result c.args.allowed c.empty.ensures))
          c.requires.own;
      priced = c.requires.priced;
      small_prices = c.requires.small_prices;
      from_one = c.requires.scaled;
      small_scale = c.requires.small_scale;
      few = c.requires.few_trades;
      small_worths = c.requires.small_worths;
      within = (g.met.V.Valuation.lawful c.args.firm.now).within;
      gains_are = c.gains-gains.ensures.each;
    } in
    let scale_fits : SFits w128 c.args.scale = c.ranges.scale in
    let value_fits : SFits w128 c.climb-found.result.value = search rules in
    let climbed =
    subst (λ (scale : ℤ). IsBest (aimed c.args.allowed scale c.gains-gains.result firm).worth
    c.climb-found.result.bundle c.climb-found.result.value)
    (to_z-of_z w128 c.args.scale scale_fits) c.climb-found.ensures.best in
    let best = plain_best firm (g.V.Valuation.limit c.args.firm.now) c.empty.result c.args.allowed c.args.scale
    c.args.prices.now c.gains-gains.result c.empty.ensures question
    c.climb-found.result.bundle c.climb-found.result.value climbed in
    let kept = subst (λ (scale : ℤ). StaysAt (aimed c.args.allowed scale c.gains-gains.result firm).worth c.args.from
    c.climb-found.result.bundle)
    (to_z-of_z w128 c.args.scale scale_fits) c.climb-found.ensures.kept in
    let asked = subst (λ (scale : ℤ). AsksFew (aimed c.args.allowed scale c.gains-gains.result firm).worth c.args.from
    ((firm.count + 1) * (firm.count + 1)) c.args.steps.now c.climb-found.new.steps)
    (to_z-of_z w128 c.args.scale scale_fits) c.climb-found.ensures.asked in
    record {
      best = record {
        best = subst (IsBestBetween 0 c.args.allowed (utility c.args.scale (price_at c.args.prices.now) firm)
            c.climb-found.result.bundle)
            (sym (to_z-of_z w128 c.climb-found.result.value value_fits)) best;
        kept = λ value greatest. kept value (best_plain firm (g.V.Valuation.limit c.args.firm.now) c.empty.result
            c.args.allowed c.args.scale c.args.prices.now c.gains-gains.result
            c.empty.ensures question c.args.from value greatest);
      };
      asked = λ value greatest. asked value (best_plain firm (g.V.Valuation.limit c.args.firm.now) c.empty.result
          c.args.allowed c.args.scale c.args.prices.now c.gains-gains.result
          c.empty.ensures question c.args.from value greatest);
      small = subst (λ (z : ℤ). IsAtMost z most_utility) (sym (to_z-of_z w128 c.climb-found.result.value value_fits))
          (plain_small firm (g.V.Valuation.limit c.args.firm.now) c.empty.result c.args.allowed c.args.scale
          c.args.prices.now c.gains-gains.result question
          c.climb-found.result.bundle (Some c.climb-found.result.value) (sym best.is));
    }
