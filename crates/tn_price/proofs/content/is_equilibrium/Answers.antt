-- What shows the clauses of `is_equilibrium` of `src/content.rt`.
use Rattle.std.proofs.Common.{◌+◌, arith, map, pos, refl, sym, ◌∙◌}
use Rattle.std.proofs.lemmas.Bool.{false≢true}
use Rattle.std.proofs.lemmas.List.{length-map}
use Rattle.std.proofs.lemmas.Option.{slice_get_within}
use Rattle.tn_model.specs.Prices.{price_at}
use Rattle.tn_graph.proofs.ReadingLemmas.{worths_step}
use Rattle.tn_price.proofs.JudgeLemmas.{firm_is, one_best, some_item, worths_within}
use Rattle.tn_price.proofs.content.is_equilibrium.Goals as goal

pub loop-f-init : goal.loop-f-init
loop-f-init g c = record { best = λ h firm below is. absurd (omega (arith, below)); asked = omega arith }

pub loop-f-preserved : goal.loop-f-preserved
loop-f-preserved g c =
    let firms = map g.V.Valuation.firm c.args.market.now.firms in
    let count = c.firms-f-end.ensures.count in
    let inside = c.loop-f-test.true in
    let item = some_item c.args.market.now.firms c.loop-f.f (omega (arith, inside, count)) in
    let firm = g.V.Valuation.firm item.0 in
    let is = firm_is g.V.Valuation.firm c.args.market.now.firms c.loop-f.f item.0 item.1 in
    record {
      best = one_best firms c.args.market.now.trades (pos 1) c.args.at.now.on (price_at c.args.at.now.prices)
          c.loop-f.f firm c.loop-f.invariant.best is ((c.is_content.ensures.content firm is).0 c.if-not-is_content.false);
      asked = worths_step firms c.loop-f.f firm c.args.steps.now c.loop-f.steps c.is_content.new.steps is
          c.loop-f.invariant.asked (c.is_content.ensures.asked firm is);
    }

pub returns-then-not-is_content-clause-equilibrium : goal.returns-then-not-is_content-clause-equilibrium
returns-then-not-is_content-clause-equilibrium g c =
    let count = c.firms-f-end.ensures.count in
    let inside = c.loop-f-test.true in
    let item = some_item c.args.market.now.firms c.loop-f.f (omega (arith, inside, count)) in
    let firm = g.V.Valuation.firm item.0 in
    let is = firm_is g.V.Valuation.firm c.args.market.now.firms c.loop-f.f item.0 item.1 in
    let refused = c.if-not-is_content.true in (
      (λ yes. absurd (false≢true yes)),
      (λ all. absurd (false≢true (sym refused ∙ (c.is_content.ensures.content firm is).1 (all c.loop-f.f firm is)))),
    )

pub returns-then-not-is_content-clause-asked : goal.returns-then-not-is_content-clause-asked
returns-then-not-is_content-clause-asked g c =
    let firms = map g.V.Valuation.firm c.args.market.now.firms in
    let count = c.firms-f-end.ensures.count in
    let inside = c.loop-f-test.true in
    let item = some_item c.args.market.now.firms c.loop-f.f (omega (arith, inside, count)) in
    let firm = g.V.Valuation.firm item.0 in
    let is = firm_is g.V.Valuation.firm c.args.market.now.firms c.loop-f.f item.0 item.1 in
    let so_far = worths_step firms c.loop-f.f firm c.args.steps.now c.loop-f.steps c.is_content.new.steps is
    c.loop-f.invariant.asked (c.is_content.ensures.asked firm is) in
    let within = worths_within (c.loop-f.f + 1) firms in
    omega (arith, so_far, within)

pub returns-clause-equilibrium : goal.returns-clause-equilibrium
returns-clause-equilibrium g c =
    let count = c.firms-f-end.ensures.count in
    let past = c.loop-f-test.false in
    let mapped = length-map c.args.market.now.firms g.V.Valuation.firm in (
      (λ yes f firm is.
          let inside = slice_get_within (map g.V.Valuation.firm c.args.market.now.firms) f firm is in
          c.loop-f.invariant.best f firm (omega (arith, count, past, inside, mapped)) is),
      (λ all. refl),
    )

pub returns-clause-asked : goal.returns-clause-asked
returns-clause-asked g c =
    let within = worths_within c.loop-f.f (map g.V.Valuation.firm c.args.market.now.firms) in
    omega (arith, c.loop-f.invariant.asked, within)
