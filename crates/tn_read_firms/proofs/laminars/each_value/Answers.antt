-- What shows the clauses of `each_value` of `src/laminars.rt`.
use Rattle.std.proofs.Common.{arith}
use Rattle.std.proofs.lemmas.Result.{err_from_is_err_and}
use Rattle.tn_read_firms.specs.Laminars.{one_value}
use Rattle.tn_read_shapes.proofs.EachLemmas.{each_goes_on, each_is_done, each_fails}
use Rattle.tn_read_firms.proofs.laminars.each_value.Goals as goal

pub returns-in_err-add_value : goal.returns-in_err-add_value
returns-in_err-add_value c =
    let p = err_from_is_err_and c.from_residual.result c.from_residual.ensures.1 in
    rw (p.1, p.2) (each_fails (one_value c.args.head.now.limits c.args.f c.args.s) c.in_err-add_value.field-0.0
    c.args.values.now c.loop-value.value-index c.value-item.result _ _ c.loop-value-test.true
    (rw (← c.value-item.is) c.in_err-add_value.ensures.gives) c.loop-value.invariant.rest)

pub loop-value-preserved : goal.loop-value-preserved
loop-value-preserved c = record {
  count = omega (arith, c.in_ok-add_value.ensures.count, c.loop-value.invariant.count);
  rest = each_goes_on (one_value c.args.head.now.limits c.args.f c.args.s) c.args.values.now c.loop-value.value-index
      c.value-item.result _ _ _ c.loop-value-test.true (rw (← c.value-item.is) c.in_ok-add_value.ensures.gives)
      c.loop-value.invariant.rest;
}

pub returns : goal.returns
returns c = each_is_done (one_value c.args.head.now.limits c.args.f c.args.s) c.args.values.now c.loop-value.value-index
    _ _ c.loop-value-test.false c.loop-value.invariant.rest
