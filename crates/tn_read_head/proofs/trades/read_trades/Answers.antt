-- What shows the clauses of `read_trades` of `src/trades.rt`.
use Rattle.std.proofs.Common.{ap, ◌∙◌, ◌∷◌, [], length, arith, length-append}
use Rattle.std.proofs.lemmas.Result.{err_from_is_err_and}
use Rattle.tn_read_head.specs.Naming.{one_trade}
use Rattle.tn_read_shapes.proofs.EachLemmas.{each_goes_on, each_is_done}
use Rattle.tn_read_head.proofs.BesideLemmas.{each_fails_beside}
use Rattle.tn_model.proofs.InOrderLemmas.{AreInOrder-push}
use Rattle.tn_model.specs.Limits.{most_trades}
use Rattle.tn_read_head.proofs.CountLemmas.{counted_next, few_counted}
use Rattle.tn_read_head.proofs.trades.read_trades.Goals as goal

pub returns-in_err-next-clause-gives : goal.returns-in_err-next-clause-gives
returns-in_err-next-clause-gives c =
    let p = err_from_is_err_and c.from_residual-in_err-next.result c.from_residual-in_err-next.ensures.1 in
    rw (p.1, p.2) (each_fails_beside one_trade _ c.in_err-next.field-0.0 c.args.trades.now c.loop-trade.trade-index
    c.trade-item.result _ _ c.loop-trade-test.true (rw (
      ← c.trade-item.is,
      ← c.deref.ensures.value,
    ) c.in_err-next.ensures.gives) c.loop-trade.invariant.rest)

pub count-requires-clause-few : goal.count-requires-clause-few
count-requires-clause-few c =
    let i = c.loop-trade.invariant in
    few_counted (length c.loop-trade.names.firms) most_trades c.loop-trade.ends.items c.loop-trade.counts i.counted
    (let test = c.loop-trade-test.true in let few = c.requires.few in let count = i.count in
    omega (arith, test, few, count))

pub loop-trade-preserved : goal.loop-trade-preserved
loop-trade-preserved c =
    let i = c.loop-trade.invariant in
    let items = c.in_ok-push.ensures.items in
    let firms = c.in_ok-next.ensures.firms in
    record {
      counted = rw items (counted_next (length c.read_trade.new.names.firms) c.loop-trade.ends.items c.in_ok-next.next
          c.loop-trade.counts c.count.new.self (rw firms i.counted) c.count.ensures.counted c.count.ensures.each);
      named = omega (arith, c.in_ok-next.ensures.count, i.count);
      count = ap length items ∙ omega (arith, length-append c.loop-trade.ends.items (c.in_ok-next.next ∷ []), i.count);
      firms = firms ∙ i.firms;
      order = rw items (AreInOrder-push (length c.read_trade.new.names.firms) c.loop-trade.ends.items c.in_ok-next.next
          (rw firms i.order) (rw (← c.deref.ensures.value) c.in_ok-next.ensures.next));
      rest = rw items (each_goes_on one_trade c.args.trades.now c.loop-trade.trade-index c.trade-item.result _ _ _
          c.loop-trade-test.true (rw (← c.trade-item.is, ← c.deref.ensures.value) c.in_ok-next.ensures.gives) i.rest);
    }

pub returns-clause-gives : goal.returns-clause-gives
returns-clause-gives c =
    each_is_done one_trade c.args.trades.now c.loop-trade.trade-index _ _ c.loop-trade-test.false
    c.loop-trade.invariant.rest
