-- What shows the clauses of `utility_of` of `src/oracle.rt`.
use Rattle.std.proofs.Common.{◌∙◌, ◌≡◌, ◌^◌, ◌<◌, ℕ, ℤ, Option, sym, subst}
use Rattle.std.proofs.lemmas.Int.{to_z-of_z}
use mir.Syntax.{w128}
use mir.Val.{SFits}
use Rattle.tn_market.specs.Ascent.{aimed}
use Rattle.tn_market.proofs.BonusLemmas.{IsQuestion, beside_none, plain_utility, plain_small}
use Rattle.tn_market.proofs.oracle.utility_of.Goals as goal

pub returns : goal.returns
returns g c =
    let firm = g.V.Valuation.firm c.args.firm.now in
    let question : IsQuestion firm (g.V.Valuation.limit c.args.firm.now) c.empty.result c.args.x c.args.scale
    c.args.prices.now c.gains-gains.result = record {
      own = subst (λ (x : ℕ). x < 2 ^ firm.count) (sym (beside_none c.empty.result c.args.x c.empty.ensures))
          c.requires.own;
      priced = c.requires.priced;
      small_prices = c.requires.small_prices;
      from_one = c.requires.scaled;
      small_scale = c.requires.small_scale;
      few = c.requires.few_trades;
      small_worths = c.requires.small_worths;
      within = (g.met.V.Valuation.lawful c.args.firm.now).within;
      gains_are = c.gains-gains.ensures.each;
    } in
    let scale_fits : SFits w128 c.args.scale = c.ranges.scale in
    let value_is =
    subst (λ (scale : ℤ). ◌≡◌ {A = Option ℤ} c.value.result
    ((aimed c.args.x scale c.gains-gains.result firm).worth c.args.x))
    (to_z-of_z w128 c.args.scale scale_fits) c.value.ensures.value in
    let is = value_is ∙ plain_utility firm (g.V.Valuation.limit c.args.firm.now) c.empty.result c.args.x c.args.scale
    c.args.prices.now c.gains-gains.result c.empty.ensures question in
    record {
      value = is;
      small = plain_small firm (g.V.Valuation.limit c.args.firm.now) c.empty.result c.args.x c.args.scale
          c.args.prices.now c.gains-gains.result question c.args.x c.value.result is;
    }
