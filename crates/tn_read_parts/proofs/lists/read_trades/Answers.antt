-- What shows the clauses of `read_trades` of `src/lists.rt`.
use Rattle.std.proofs.lemmas.Result.{err_from_is_err_and}
use Rattle.tn_read_parts.specs.Lists.{list_place, one_on}
use Rattle.tn_read_shapes.proofs.EachLemmas.{each_goes_on, each_is_done, each_fails}
use Rattle.tn_read_parts.proofs.lists.read_trades.Goals as goal

pub returns-in_err-add_trade : goal.returns-in_err-add_trade
returns-in_err-add_trade c =
    let p = err_from_is_err_and c.from_residual.result c.from_residual.ensures.1 in
    rw (p.1, p.2) (each_fails (one_on c.args.head.now.names.trades (list_place c.args.at)) c.in_err-add_trade.field-0.0
    c.args.references.now c.loop-reference.reference-index c.reference-item.result _ _ c.loop-reference-test.true
    (rw (← c.reference-item.is) c.in_err-add_trade.ensures) c.loop-reference.invariant)

pub loop-reference-preserved : goal.loop-reference-preserved
loop-reference-preserved c =
    each_goes_on (one_on c.args.head.now.names.trades (list_place c.args.at)) c.args.references.now
    c.loop-reference.reference-index c.reference-item.result _ _ _ c.loop-reference-test.true
    (rw (← c.reference-item.is) c.in_ok-add_trade.ensures) c.loop-reference.invariant

pub returns : goal.returns
returns c = each_is_done (one_on c.args.head.now.names.trades (list_place c.args.at)) c.args.references.now
    c.loop-reference.reference-index _ _ c.loop-reference-test.false c.loop-reference.invariant
