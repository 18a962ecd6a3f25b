-- What shows the clauses of `best_by_ascent` of `src/ascent.rt`.
use Rattle.std.proofs.Common.{◌∙◌, ℕ, ℤ, sym, subst}
use Rattle.std.proofs.lemmas.Int.{to_z-of_z}
use mir.Syntax.{w128}
use mir.Val.{SFits}
use Rattle.tn_base.specs.Arcs.{IsAtMost}
use Rattle.tn_base.specs.Firm.{IsBest, utility}
use Rattle.tn_base.specs.Sets.{union}
use Rattle.tn_base.proofs.SizeLemmas.{size_at}
use Rattle.tn_market.specs.Best.{IsBestBetween}
use Rattle.tn_model.specs.Prices.{price_at}
use Rattle.tn_market.specs.Ascent.{aimed}
use Rattle.tn_market.specs.Widths.{most_aimed}
use Rattle.tn_market.proofs.AscentLemmas.{emptied, not_emptied}
use Rattle.tn_market.proofs.BonusLemmas.{IsQuestion, best_some, best_none, value_small, need_within, plain_value, plain_fits}
use Rattle.tn_market.proofs.ascent.best_by_ascent.Given.{Over}
use Rattle.tn_market.proofs.ascent.best_by_ascent.Goals.{After-climb-found}
use Rattle.tn_market.proofs.ascent.best_by_ascent.Goals as goal

-- what is asked is within the limits
question : (g : Over) (c : After-climb-found g)
    → IsQuestion (g.V.Valuation.firm c.args.firm.now) (g.V.Valuation.limit c.args.firm.now) c.args.need c.args.free
    c.args.scale c.args.prices.now c.gains-gains.result
question g c = record {
  own = c.requires.own;
  priced = c.requires.priced;
  small_prices = c.requires.small_prices;
  from_one = c.requires.scaled;
  small_scale = c.requires.small_scale;
  few = c.requires.few_trades;
  small_worths = c.requires.small_worths;
  within = (g.met.V.Valuation.lawful c.args.firm.now).within;
  gains_are = c.gains-gains.ensures.each;
}

-- what was found is best of what the search is after
best : (g : Over) (c : After-climb-found g)
    → IsBest (aimed (union c.args.need c.args.free) c.args.scale c.gains-gains.result
    (g.V.Valuation.firm c.args.firm.now)).worth c.climb-found.result.bundle c.climb-found.result.value
best g c =
    let firm = g.V.Valuation.firm c.args.firm.now in
    let scale_fits : SFits w128 c.args.scale = c.ranges.scale in
    let climbed =
    subst (λ (scale : ℤ). IsBest (aimed c.union.result scale c.gains-gains.result firm).worth
    c.climb-found.result.bundle c.climb-found.result.value)
    (to_z-of_z w128 c.args.scale scale_fits) c.climb-found.ensures.best in
    subst (λ (allowed : ℕ). IsBest (aimed allowed c.args.scale c.gains-gains.result firm).worth
    c.climb-found.result.bundle c.climb-found.result.value)
    c.union.ensures climbed

small : (g : Over) (c : After-climb-found g) → IsAtMost c.climb-found.result.value most_aimed
small g c = value_small (g.V.Valuation.firm c.args.firm.now) (g.V.Valuation.limit c.args.firm.now) c.args.need
    c.args.free c.args.scale c.args.prices.now c.gains-gains.result (question g c) c.climb-found.result.bundle
    c.climb-found.result.value (best g c).is

pub returns-then-ne : goal.returns-then-ne
returns-then-ne g c =
    let at = (goal.at.returns-then-ne g c).After-climb-found in
    best_none (g.V.Valuation.firm c.args.firm.now) (g.V.Valuation.limit c.args.firm.now) c.args.need c.args.free
    c.args.scale c.args.prices.now c.gains-gains.result (question g at) c.climb-found.result.bundle
    c.climb-found.result.value (best g at)
    (λ e. not_emptied c.minus.result c.empty.result c.ne.result c.ne.ensures c.if-ne.true c.empty.ensures
    (c.minus.ensures ∙ e))

pub overflow_sub-result : goal.overflow_sub-result
overflow_sub-result g c =
    plain_fits c.climb-found.result.value c.count.result
    (small g (goal.at.overflow_sub-result g c).After-climb-found) c.count.ensures.few

pub returns : goal.returns
returns g c =
    let at = (goal.at.returns g c).After-climb-found in
    let firm = g.V.Valuation.firm c.args.firm.now in
    let size = size_at firm.count c.args.need (need_within firm c.args.need c.args.free c.requires.own) in
    let has_all =
    sym c.minus.ensures ∙ emptied c.minus.result c.empty.result c.ne.result c.ne.ensures c.if-ne.false
    c.empty.ensures in
    let some = best_some firm (g.V.Valuation.limit c.args.firm.now) c.args.need c.args.free c.args.scale
    c.args.prices.now c.gains-gains.result (question g at) c.climb-found.result.bundle c.climb-found.result.value
    (best g at) has_all in
    let plain = plain_value c.climb-found.result.value c.count.result _ (small g at) (c.count.ensures.members ∙ size)
    c.count.ensures.few in
    subst (IsBestBetween c.args.need c.args.free (utility c.args.scale (price_at c.args.prices.now) firm)
    c.climb-found.result.bundle) (sym plain) some
