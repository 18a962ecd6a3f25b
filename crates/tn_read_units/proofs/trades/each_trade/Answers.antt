-- What shows the clauses of `each_trade` of `src/trades.rt`.
use Rattle.std.proofs.Common.{ap, ◌∙◌, ◌∷◌, [], length, arith, length-append}
use Rattle.std.proofs.lemmas.List.Elements.{All-push}
use Rattle.std.proofs.lemmas.Result.{err_from_is_err_and}
use Rattle.tn_read_units.specs.Trades.{IsUnitTrade, one_trade}
use Rattle.tn_read_shapes.proofs.EachLemmas.{each_goes_on, each_is_done}
use Rattle.tn_read_head.proofs.BesideLemmas.{each_fails_beside}
use Rattle.tn_read_units.proofs.trades.each_trade.Goals as goal

pub returns-in_err-next-clause-gives : goal.returns-in_err-next-clause-gives
returns-in_err-next-clause-gives c =
    let p = err_from_is_err_and c.from_residual.result c.from_residual.ensures.1 in
    rw (p.1, p.2) (each_fails_beside one_trade _ c.in_err-next.field-0.0 c.args.items.now c.loop-item.item-index
    c.item-item.result _ _ c.loop-item-test.true (rw (
      ← c.item-item.is,
      ← c.deref.ensures.value,
    ) c.in_err-next.ensures.gives) c.loop-item.invariant.rest)

pub loop-item-preserved : goal.loop-item-preserved
loop-item-preserved c =
    let i = c.loop-item.invariant in
    let items = c.in_ok-push.ensures.items in
    let firms = c.in_ok-next.ensures.firms in
    record {
      named = omega (arith, c.in_ok-next.ensures.count, i.count);
      count = ap length items ∙ omega (arith, length-append c.loop-item.trades.items (c.in_ok-next.next ∷ []), i.count);
      firms = firms ∙ i.firms;
      sound = rw items (All-push (IsUnitTrade (length c.read_trade.new.names.firms)) c.loop-item.trades.items
          c.in_ok-next.next (rw firms i.sound) c.in_ok-next.ensures.sound);
      rest = rw items (each_goes_on one_trade c.args.items.now c.loop-item.item-index c.item-item.result _ _ _
          c.loop-item-test.true (rw (← c.item-item.is, ← c.deref.ensures.value) c.in_ok-next.ensures.gives) i.rest);
    }

pub returns-clause-gives : goal.returns-clause-gives
returns-clause-gives c =
    each_is_done one_trade c.args.items.now c.loop-item.item-index _ _ c.loop-item-test.false c.loop-item.invariant.rest
