-- What shows the clauses of `count_own` of `src/sides.rt`.
use Rattle.std.proofs.Common.{ap, sym, ◌∙◌, length, arith}
use Rattle.std.specs.Prelude.{is_some}
use Rattle.tn_model.proofs.InOrderLemmas.{sides_of-none, count-own, count-other}
use Rattle.tn_model.proofs.sides.count_own.Goals.{then-is_some, else-is_some}
use Rattle.tn_model.proofs.sides.count_own.Goals as goal

pub loop-trade-init : goal.loop-trade-init
loop-trade-init c = record { counted = sym (ap length (sides_of-none c.args.f)); few = omega arith }

pub loop-trade-preserved : goal.loop-trade-preserved
loop-trade-preserved c =
    let i = c.loop-trade.invariant in
    elim c.if-is_some.branch [
      | then-is_some w ↦
          let more = count-own c.args.f c.args.trades.now c.loop-trade.trade-index _ c.loop-trade-test.true
          (ap is_some (sym c.side_in.ensures) ∙ sym c.is_some.ensures ∙ w.if-is_some.true) in
          record { counted = w.count-is ∙ omega (arith, more, i.counted); few = omega (arith, w.count-is, i.few) }
      | else-is_some w ↦
          let more = count-other c.args.f c.args.trades.now c.loop-trade.trade-index _ c.loop-trade-test.true
          (ap is_some (sym c.side_in.ensures) ∙ sym c.is_some.ensures ∙ w.if-is_some.false) in
          record { counted = w.count-is ∙ omega (arith, more, i.counted); few = omega (arith, w.count-is, i.few) }
    ]
