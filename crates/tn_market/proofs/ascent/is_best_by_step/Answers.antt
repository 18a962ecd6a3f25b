-- What shows the clauses of `is_best_by_step` of `src/ascent.rt`.
use Rattle.std.proofs.Common.{◌^◌, ◌<◌, ◌↔◌, ℕ, ℤ, true, IsTrue, arith, ap, sym, subst, ◌∙◌}
use Rattle.std.proofs.lemmas.Int.{to_z-of_z}
use mir.Syntax.{w128}
use Rattle.tn_base.specs.Firm.{IsBest}
use Rattle.tn_base.specs.Sets.{set_of}
use Rattle.tn_model.specs.Prices.{price_at}
use Rattle.tn_market.specs.Ascent.{IsAim, aimed}
use Rattle.tn_market.proofs.AskLemmas.{all_within, best_is_greatest, greatest_is_best}
use Rattle.tn_market.proofs.BonusLemmas.{IsQuestion, beside_none, plain_best, best_plain}
use Rattle.tn_market.proofs.ascent.is_best_by_step.Goals as goal

pub invariant_of-aim : goal.invariant_of-aim
invariant_of-aim g c =
    let firm = g.V.Valuation.firm c.args.firm.now in
    let plain = to_z-of_z w128 c.args.scale c.ranges.scale in
    record {
      fits = subst (λ (scale : ℤ). IsAim c.all_positions.result scale c.gains-gains.result
          (g.V.Valuation.limit c.args.firm.now) firm) (sym plain) (record {
            own = all_within c.all_positions.result firm.count (c.all_positions.ensures
                ∙ ap (set_of (λ k. true)) c.trades.ensures.count);
            few = c.requires.few_trades;
            counted = omega (arith, c.requires.few_trades, c.gains-gains.ensures.counted);
            small_gains = c.gains-gains.ensures.small;
            from_one = c.requires.scaled;
            small_scale = c.requires.small_scale;
            small_worths = c.requires.small_worths;
          });
    }

pub returns-clause-best : goal.returns-clause-best
returns-clause-best g c =
    let firm = g.V.Valuation.firm c.args.firm.now in
    let all = c.all_positions.result in
    let all_is = c.all_positions.ensures ∙ ap (set_of (λ k. true)) c.trades.ensures.count in
    let question : IsQuestion firm (g.V.Valuation.limit c.args.firm.now) c.empty.result all c.args.scale
    c.args.prices.now c.gains-gains.result = record {
      own = subst (λ (x : ℕ). x < 2 ^ firm.count) (sym (beside_none c.empty.result all c.empty.ensures))
          (all_within all firm.count all_is);
      priced = c.requires.priced;
      small_prices = c.requires.small_prices;
      from_one = c.requires.scaled;
      small_scale = c.requires.small_scale;
      few = c.requires.few_trades;
      small_worths = c.requires.small_worths;
      within = (g.met.V.Valuation.lawful c.args.firm.now).within;
      gains_are = c.gains-gains.ensures.each;
    } in
    let own_bundles = (g.met.V.Valuation.lawful c.args.firm.now).own_bundles in
    let decided =
    subst (λ (scale : ℤ). IsTrue c.is_best.result ↔ ((value : ℤ) × IsBest (aimed all scale c.gains-gains.result
    firm).worth c.args.own value))
    (to_z-of_z w128 c.args.scale c.ranges.scale) c.is_best.ensures.best in (
      λ yes. (
        (decided.0 yes).0,
        greatest_is_best firm c.args.scale (price_at c.args.prices.now) all c.args.own (decided.0 yes).0 own_bundles
            all_is (plain_best firm (g.V.Valuation.limit c.args.firm.now) c.empty.result all c.args.scale
            c.args.prices.now c.gains-gains.result c.empty.ensures question c.args.own (decided.0 yes).0
            (decided.0 yes).1),
      ),
      λ best. decided.1 (
        best.0,
        best_plain firm (g.V.Valuation.limit c.args.firm.now) c.empty.result all c.args.scale c.args.prices.now
            c.gains-gains.result c.empty.ensures question c.args.own best.0
            (best_is_greatest firm c.args.scale (price_at c.args.prices.now) all c.args.own best.0 own_bundles all_is
            best.1),
      ),
    )
