-- What shows the clauses of `read_firms` of `src/firms.rt`.
use Rattle.std.proofs.Common.{arith}
use Rattle.std.proofs.lemmas.Result.{err_from_is_err_and}
use Rattle.tn_read_units.specs.Firms.{one_firm}
use Rattle.tn_read_shapes.proofs.EachLemmas.{each_goes_on, each_is_done, each_fails}
use Rattle.tn_read_units.proofs.firms.read_firms.Goals as goal

pub returns-in_err-add_firm : goal.returns-in_err-add_firm
returns-in_err-add_firm c =
    let p = err_from_is_err_and c.from_residual.result c.from_residual.ensures.1 in
    rw (p.1, p.2) (each_fails (one_firm c.args.head.now) c.in_err-add_firm.field-0.0 c.args.items.now
    c.loop-item.item-index c.item-item.result _ _ c.loop-item-test.true
    (rw (← c.item-item.is) c.in_err-add_firm.ensures.gives) c.loop-item.invariant.rest)

pub loop-item-preserved : goal.loop-item-preserved
loop-item-preserved c = record {
  count = omega (arith, c.in_ok-add_firm.ensures.count, c.loop-item.invariant.count);
  rest = each_goes_on (one_firm c.args.head.now) c.args.items.now c.loop-item.item-index c.item-item.result _ _ _
      c.loop-item-test.true (rw (← c.item-item.is) c.in_ok-add_firm.ensures.gives) c.loop-item.invariant.rest;
}

pub returns : goal.returns
returns c = each_is_done (one_firm c.args.head.now) c.args.items.now c.loop-item.item-index _ _ c.loop-item-test.false
    c.loop-item.invariant.rest
