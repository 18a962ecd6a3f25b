-- What shows the clauses of `all_kept` of `src/kept.rt`.
use Rattle.std.proofs.Common.{map, arith}
use Rattle.std.proofs.lemmas.List.{length-map}
use Rattle.tn_chain.proofs.KeptLemmas.{one_kept, all_kept, item_kept}
use Rattle.tn_chain.proofs.kept.all_kept.Goals as goal

pub loop-f-preserved : goal.loop-f-preserved
loop-f-preserved g c =
    one_kept (map g.V.Valuation.firm c.args.market.now.firms) c.args.market.now.trades c.args.outcome.now.over
    c.args.outcome.now.contracts c.loop-f.f c.loop-f.kept.items
    c.push.new.self.items c.kept_by.result c.loop-f.invariant c.in_ok-push.ensures.items
    (item_kept g.V.Valuation.firm c.args.market.now.firms c.args.market.now.trades c.args.outcome.now.over
    c.args.outcome.now.contracts c.loop-f.f c.kept_by.result c.kept_by.ensures)

pub returns : goal.returns
returns g c =
    let test = c.loop-f-test.false in
    let end = c.loop-f.auto.f-end in
    let count = c.firms-f-end.ensures.count in
    let mapped = length-map c.args.market.now.firms g.V.Valuation.firm in
    all_kept (map g.V.Valuation.firm c.args.market.now.firms) c.args.market.now.trades c.args.outcome.now.over
    c.args.outcome.now.contracts c.loop-f.f c.loop-f.kept.items
    (omega (arith, test, end, count, mapped)) c.loop-f.invariant
