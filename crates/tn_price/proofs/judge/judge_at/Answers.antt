-- What shows the clauses of `judge_at` of `src/judge.rt`.
use Rattle.std.proofs.Common.{sym, subst, ℤ, ◌+ℤ◌, ◌+◌, arith, rules, map}
use Rattle.std.proofs.lemmas.Int.{to_z-of_z}
use Rattle.std.proofs.lemmas.List.{length-map}
use mir.Syntax.{w128}
use mir.Val.{SFits, to_z, of_z}
use Rattle.tn_model.specs.Prices.{price_at}
use Rattle.tn_market.specs.Judged.{IsFirstBettered}
use Rattle.tn_market.specs.Widths.{most_utility, most_worth}
use Rattle.tn_market.proofs.AscentLemmas.{smaller}
use Rattle.tn_price.specs.Standings.{StandsAt}
use Rattle.tn_price.specs.declared.firm_verdict.FirmVerdict.TheVariants.{Impossible, Bettered}
use Rattle.tn_market.proofs.AskLemmas.{as_is}
use Rattle.tn_price.proofs.JudgeLemmas.{AreJudged, some_item, firm_is, one_judged, all_judged, first_impossible, first_bettered, sum_fits}
use Rattle.tn_price.proofs.judge.judge_at.Goals as goal

pub overflow_add-surplus : goal.overflow_add-surplus
overflow_add-surplus g c =
    let count = c.firms-f-end.ensures.count in
    let inside = c.loop-f-test.true in
    let found = some_item c.args.market.now.firms c.loop-f.f (omega (arith, inside, count)) in
    let stands = c.in-Best.ensures in
    let best = stands (g.V.Valuation.firm found.0) (firm_is g.V.Valuation.firm c.args.market.now.firms c.loop-f.f
    found.0 found.1) in
    let plain = as_is c.in-Best.worth (smaller c.in-Best.worth most_worth most_utility (omega arith) best.small) in
    subst (λ (z : ℤ). SFits w128 (to_z w128 c.loop-f.surplus-bits +ℤ z)) (sym plain)
    (sum_fits (to_z w128 c.loop-f.surplus-bits) c.in-Best.worth c.loop-f.f c.firms-f-end.result c.loop-f.invariant.small
    best.small inside c.firms-f-end.ensures.few)

pub returns-in-Impossible : goal.returns-in-Impossible
returns-in-Impossible g c =
    let firms = map g.V.Valuation.firm c.args.market.now.firms in
    let prices = price_at c.args.prices.now in
    let fits : SFits w128 c.args.over = c.ranges.over in
    let plain = to_z-of_z w128 c.args.over fits in
    let judged =
    subst (λ (scale : ℤ). AreJudged firms c.args.market.now.trades scale c.args.on.now prices c.loop-f.f
    (to_z w128 c.loop-f.surplus-bits))
    plain c.loop-f.invariant in
    let stands =
    subst (λ (scale : ℤ). StandsAt firms c.args.market.now.trades scale c.args.on.now prices c.loop-f.f Impossible)
    plain c.in-Impossible.ensures in
    let count = c.firms-f-end.ensures.count in
    let inside = c.loop-f-test.true in
    let found = some_item c.args.market.now.firms c.loop-f.f (omega (arith, inside, count)) in
    first_impossible firms c.args.market.now.trades c.args.over c.args.on.now prices c.loop-f.f
    (g.V.Valuation.firm found.0)
    judged.before (firm_is g.V.Valuation.firm c.args.market.now.firms c.loop-f.f found.0 found.1) stands

pub returns-in-Bettered : goal.returns-in-Bettered
returns-in-Bettered g c =
    let firms = map g.V.Valuation.firm c.args.market.now.firms in
    let prices = price_at c.args.prices.now in
    let fits : SFits w128 c.args.over = c.ranges.over in
    let plain = to_z-of_z w128 c.args.over fits in
    let judged =
    subst (λ (scale : ℤ). AreJudged firms c.args.market.now.trades scale c.args.on.now prices c.loop-f.f
    (to_z w128 c.loop-f.surplus-bits))
    plain c.loop-f.invariant in
    let stands =
    subst (λ (scale : ℤ). StandsAt firms c.args.market.now.trades scale c.args.on.now prices c.loop-f.f
    (Bettered c.in-Bettered.bundle c.in-Bettered.gain))
    plain c.in-Bettered.ensures in
    let count = c.firms-f-end.ensures.count in
    let inside = c.loop-f-test.true in
    let found = some_item c.args.market.now.firms c.loop-f.f (omega (arith, inside, count)) in
    let gain : SFits w128 c.in-Bettered.gain = search rules in
    subst (λ (z : ℤ). IsFirstBettered firms c.args.market.now.trades c.args.over c.args.on.now prices c.loop-f.f
    c.in-Bettered.bundle z)
    (sym (to_z-of_z w128 c.in-Bettered.gain gain))
    (first_bettered firms c.args.market.now.trades c.args.over c.args.on.now prices c.loop-f.f c.in-Bettered.bundle
    c.in-Bettered.gain (g.V.Valuation.firm found.0)
    judged.before (firm_is g.V.Valuation.firm c.args.market.now.firms c.loop-f.f found.0 found.1) stands)

pub loop-f-preserved : goal.loop-f-preserved
loop-f-preserved g c =
    let firms = map g.V.Valuation.firm c.args.market.now.firms in
    let prices = price_at c.args.prices.now in
    let count = c.firms-f-end.ensures.count in
    let inside = c.loop-f-test.true in
    let found = some_item c.args.market.now.firms c.loop-f.f (omega (arith, inside, count)) in
    let at = firm_is g.V.Valuation.firm c.args.market.now.firms c.loop-f.f found.0 found.1 in
    let stands = c.in-Best.ensures in
    let best = stands (g.V.Valuation.firm found.0) at in
    let plain = as_is c.in-Best.worth (smaller c.in-Best.worth most_worth most_utility (omega arith) best.small) in
    let sum = to_z-of_z w128 (to_z w128 c.loop-f.surplus-bits +ℤ c.in-Best.worth)
    (sum_fits (to_z w128 c.loop-f.surplus-bits) c.in-Best.worth c.loop-f.f c.firms-f-end.result c.loop-f.invariant.small
    best.small inside c.firms-f-end.ensures.few) in
    let scale = to_z w128 (of_z w128 c.args.over) in
    subst (λ (w : ℤ). AreJudged firms c.args.market.now.trades scale c.args.on.now prices (c.loop-f.f + 1)
    (to_z w128 (of_z w128 (to_z w128 c.loop-f.surplus-bits +ℤ w))))
    (sym plain)
    (subst (λ (z : ℤ). AreJudged firms c.args.market.now.trades scale c.args.on.now prices (c.loop-f.f + 1) z) (sym sum)
    (one_judged firms c.args.market.now.trades scale c.args.on.now prices c.loop-f.f (to_z w128 c.loop-f.surplus-bits)
    c.in-Best.worth (g.V.Valuation.firm found.0)
    c.loop-f.invariant at best))

pub returns : goal.returns
returns g c =
    let firms = map g.V.Valuation.firm c.args.market.now.firms in
    let prices = price_at c.args.prices.now in
    let fits : SFits w128 c.args.over = c.ranges.over in
    let judged =
    subst (λ (scale : ℤ). AreJudged firms c.args.market.now.trades scale c.args.on.now prices c.loop-f.f
    (to_z w128 c.loop-f.surplus-bits))
    (to_z-of_z w128 c.args.over fits) c.loop-f.invariant in
    let outside = c.loop-f-test.false in
    let end = c.loop-f.auto.f-end in
    let count = c.firms-f-end.ensures.count in
    let as_many = length-map c.args.market.now.firms g.V.Valuation.firm in
    all_judged firms c.args.market.now.trades c.args.over c.args.on.now prices c.loop-f.f
    (to_z w128 c.loop-f.surplus-bits) judged
    (omega (arith, outside, end, count, as_many)) (omega (arith, outside, end, count, as_many))
