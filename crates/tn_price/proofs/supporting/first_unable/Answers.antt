-- What shows the clauses of `first_unable` of `src/supporting.rt`.
use Rattle.std.proofs.Common.{map, arith}
use Rattle.std.proofs.lemmas.List.{length-map}
use Rattle.std.proofs.lemmas.Option.{slice_get_within}
use Rattle.tn_price.proofs.JudgeLemmas.{some_item, firm_is}
use Rattle.tn_price.proofs.SupportLemmas.{first_unable, one_able}
use Rattle.tn_price.proofs.supporting.first_unable.Goals as goal

pub returns-then-is_unable-clause-found : goal.returns-then-is_unable-clause-found
returns-then-is_unable-clause-found g c =
    let count = c.firms-f-end.ensures.count in
    let inside = c.loop-f-test.true in
    let item = some_item c.args.market.now.firms c.loop-f.f (omega (arith, inside, count)) in
    first_unable (map g.V.Valuation.firm c.args.market.now.firms) c.args.market.now.trades c.args.on.now c.loop-f.f
    c.is_unable.result (g.V.Valuation.firm item.0) c.loop-f.invariant.0
    (firm_is g.V.Valuation.firm c.args.market.now.firms c.loop-f.f item.0 item.1) c.is_unable.ensures.found
    c.if-is_unable.true

pub loop-f-preserved : goal.loop-f-preserved
loop-f-preserved g c =
    let before = c.loop-f.invariant.1 in
    let asked = c.is_unable.ensures.asked in (
      one_able (map g.V.Valuation.firm c.args.market.now.firms) c.args.market.now.trades c.args.on.now c.loop-f.f
          c.is_unable.result c.loop-f.invariant.0 c.is_unable.ensures.found c.if-is_unable.false,
      omega (arith, before, asked),
    )

pub returns-clause-found : goal.returns-clause-found
returns-clause-found g c =
    let count = c.firms-f-end.ensures.count in
    let past = c.loop-f-test.false in
    λ h firm is.
    let inside = slice_get_within (map g.V.Valuation.firm c.args.market.now.firms) h firm is in
    let mapped = length-map c.args.market.now.firms g.V.Valuation.firm in
    c.loop-f.invariant.0 h firm (omega (arith, count, past, inside, mapped)) is
