-- What shows the clauses of `each_value` of `src/sets.rt`.
use Rattle.std.proofs.Common.{arith}
use Rattle.std.proofs.lemmas.Result.{err_from_is_err_and}
use Rattle.tn_read_units.specs.Sets.{one_value}
use Rattle.tn_read_shapes.proofs.EachLemmas.{each_goes_on, each_is_done, each_fails}
use Rattle.tn_read_units.proofs.sets.each_value.Goals as goal

pub returns-in_err-add_value-clause-gives : goal.returns-in_err-add_value-clause-gives
returns-in_err-add_value-clause-gives c =
    let p = err_from_is_err_and c.from_residual.result c.from_residual.ensures.1 in
    rw (p.1, p.2) (each_fails (one_value c.args.at) c.in_err-add_value.field-0.0 c.args.values.now
    c.loop-value.value-index c.value-item.result _ _ c.loop-value-test.true
    (rw (← c.value-item.is) c.in_err-add_value.ensures.gives) c.loop-value.invariant.rest)

pub loop-value-preserved : goal.loop-value-preserved
loop-value-preserved c = record {
  count = omega (arith, c.in_ok-add_value.ensures.count, c.loop-value.invariant.count);
  small = c.in_ok-add_value.ensures.small;
  rest = each_goes_on (one_value c.args.at) c.args.values.now c.loop-value.value-index c.value-item.result _ _ _
      c.loop-value-test.true (rw (← c.value-item.is) c.in_ok-add_value.ensures.gives) c.loop-value.invariant.rest;
}

pub returns-clause-gives : goal.returns-clause-gives
returns-clause-gives c = each_is_done (one_value c.args.at) c.args.values.now c.loop-value.value-index _ _
    c.loop-value-test.false c.loop-value.invariant.rest

pub returns-clause-kept : goal.returns-clause-kept
returns-clause-kept c = record {
  few = omega (
    arith,
    c.loop-value.invariant.count,
    c.loop-value.auto.value-index-end,
    c.requires,
  );
  small = c.loop-value.invariant.small;
}
