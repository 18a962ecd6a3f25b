-- What shows the clauses of `free_trades` of `src/halves.rt`.
use Rattle.std.proofs.Common.{◌∙◌, arith, ap, Vec, Global}
use Rattle.tn_model.specs.declared.ends.Ends.{Ends}
use Rattle.tn_residual.proofs.MakingLemmas.{priced_or_not, free_more, free_same}
use Rattle.tn_residual.proofs.halves.free_trades.Goals.{then-is_none+in_ok-push, else-is_none}
use Rattle.tn_residual.proofs.halves.free_trades.Goals as goal

pub loop-t-preserved : goal.loop-t-preserved
loop-t-preserved g c =
    let test = priced_or_not c.args.outcome.now.contracts c.loop-t.t c.contract_price.result c.is_none.result
    c.contract_price.ensures c.is_none.ensures in
    elim c.if-is_none.branch [
      | then-is_none+in_ok-push w ↦
          free_more c.args.outcome.now.contracts c.loop-t.t c.args.market.now.trades w.ends.result c.loop-t.trades.items
          c.if-is_none.trades.items c.is_none.result test w.if-is_none.true
          w.ends.ensures (ap (λ (v : Vec Ends Global). v.items) w.trades-is ∙ w.in_ok-push.ensures.items)
          c.loop-t.invariant
      | else-is_none w ↦
          free_same c.args.outcome.now.contracts c.loop-t.t c.args.market.now.trades c.loop-t.trades.items
          c.if-is_none.trades.items c.is_none.result test w.if-is_none.false
          (omega (arith, c.loop-t-test.true, c.loop-t.auto.t-end, c.trades-t-end.ensures.count))
          (ap (λ (v : Vec Ends Global). v.items) w.trades-is) c.loop-t.invariant
    ]
