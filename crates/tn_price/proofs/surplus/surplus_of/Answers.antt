-- What shows the clauses of `surplus_of` of `src/surplus.rt`.
use Rattle.std.proofs.Common.{◌+◌, map, arith, sym, subst, ℤ, ◌+ℤ◌}
use Rattle.std.proofs.lemmas.Int.{to_z-of_z}
use Rattle.std.proofs.lemmas.List.{length-map}
use mir.Syntax.{w128}
use mir.Val.{SFits, to_z, of_z}
use Rattle.tn_market.proofs.AscentLemmas.{smaller}
use Rattle.tn_market.specs.Widths.{most_limit, most_utility}
use Rattle.tn_market.proofs.AskLemmas.{as_is}
use Rattle.tn_price.proofs.JudgeLemmas.{firm_is, some_item}
use Rattle.tn_price.proofs.SurplusLemmas.{AreAdded, added_fits, all_added, none_at, one_added}
use Rattle.tn_price.proofs.surplus.surplus_of.Goals as goal

pub overflow_add-surplus : goal.overflow_add-surplus
overflow_add-surplus g c =
    let small = c.in-Some.ensures.small in
    let plain = as_is c.in-Some.worth (smaller c.in-Some.worth most_limit most_utility (omega arith) small) in
    subst (λ (z : ℤ). SFits w128 (to_z w128 c.loop-f.surplus-bits +ℤ z)) (sym plain)
    (added_fits (to_z w128 c.loop-f.surplus-bits) c.in-Some.worth c.loop-f.f c.firms-f-end.result
    c.loop-f.invariant.0.small small c.loop-f-test.true c.firms-f-end.ensures.few)

pub loop-f-preserved : goal.loop-f-preserved
loop-f-preserved g c =
    let firms = map g.V.Valuation.firm c.args.market.now.firms in
    let count = c.firms-f-end.ensures.count in
    let inside = c.loop-f-test.true in
    let found = some_item c.args.market.now.firms c.loop-f.f (omega (arith, inside, count)) in
    let at = firm_is g.V.Valuation.firm c.args.market.now.firms c.loop-f.f found.0 found.1 in
    let small = c.in-Some.ensures.small in
    let plain = as_is c.in-Some.worth (smaller c.in-Some.worth most_limit most_utility (omega arith) small) in
    let sum = to_z-of_z w128 (to_z w128 c.loop-f.surplus-bits +ℤ c.in-Some.worth)
    (added_fits (to_z w128 c.loop-f.surplus-bits) c.in-Some.worth c.loop-f.f c.firms-f-end.result
    c.loop-f.invariant.0.small small inside c.firms-f-end.ensures.few) in
    let asked = c.in-Some.ensures.asked in
    let before = c.loop-f.invariant.1 in (
      subst (λ (w : ℤ). AreAdded firms c.args.market.now.trades c.args.on.now (c.loop-f.f + 1)
          (to_z w128 (of_z w128 (to_z w128 c.loop-f.surplus-bits +ℤ w)))) (sym plain)
          (subst (λ (z : ℤ). AreAdded firms c.args.market.now.trades c.args.on.now (c.loop-f.f + 1) z) (sym sum)
          (one_added firms c.args.market.now.trades c.args.on.now c.loop-f.f (to_z w128 c.loop-f.surplus-bits)
          c.in-Some.worth (g.V.Valuation.firm found.0) c.loop-f.invariant.0 at
          (sym (c.in-Some.ensures.worth (g.V.Valuation.firm found.0) at)) small)),
      omega (arith, asked, before),
    )

pub returns-in-None : goal.returns-in-None
returns-in-None g c =
    let firms = map g.V.Valuation.firm c.args.market.now.firms in
    let count = c.firms-f-end.ensures.count in
    let inside = c.loop-f-test.true in
    let found = some_item c.args.market.now.firms c.loop-f.f (omega (arith, inside, count)) in
    let at = firm_is g.V.Valuation.firm c.args.market.now.firms c.loop-f.f found.0 found.1 in
    let asked = c.in-None.ensures.asked in
    let before = c.loop-f.invariant.1 in
    record {
      surplus = none_at firms c.args.market.now.trades c.args.on.now c.loop-f.f (g.V.Valuation.firm found.0) at
          (sym (c.in-None.ensures.worth (g.V.Valuation.firm found.0) at));
      asked = omega (arith, asked, before, inside, count);
    }

pub returns : goal.returns
returns g c =
    let firms = map g.V.Valuation.firm c.args.market.now.firms in
    let outside = c.loop-f-test.false in
    let end = c.loop-f.auto.f-end in
    let count = c.firms-f-end.ensures.count in
    let as_many = length-map c.args.market.now.firms g.V.Valuation.firm in
    let asked = c.loop-f.invariant.1 in
    record {
      surplus = all_added firms c.args.market.now.trades c.args.on.now c.loop-f.f (to_z w128 c.loop-f.surplus-bits)
          c.loop-f.invariant.0
          (omega (arith, outside, end, count, as_many)) (omega (arith, outside, end, count, as_many));
      asked = omega (arith, asked, end, count);
    }
