-- What shows the clauses of `each_step` of `src/steps.rt`.
use Rattle.std.proofs.Common.{arith}
use Rattle.std.proofs.lemmas.Result.{err_from_is_err_and}
use Rattle.tn_read_units.specs.Steps.{one_step}
use Rattle.tn_read_shapes.proofs.EachLemmas.{each_goes_on, each_is_done, each_fails}
use Rattle.tn_read_units.proofs.steps.each_step.Goals as goal

pub returns-in_err-add_step-clause-gives : goal.returns-in_err-add_step-clause-gives
returns-in_err-add_step-clause-gives c =
    let p = err_from_is_err_and c.from_residual.result c.from_residual.ensures.1 in
    rw (p.1, p.2) (each_fails (one_step c.args.at c.args.word) c.in_err-add_step.field-0.0 c.args.entries.now
    c.loop-entry.entry-index c.entry-item.result _ _ c.loop-entry-test.true
    (rw (← c.entry-item.is) c.in_err-add_step.ensures.gives) c.loop-entry.invariant.rest)

pub loop-entry-preserved : goal.loop-entry-preserved
loop-entry-preserved c = record {
  count = omega (arith, c.in_ok-add_step.ensures.count, c.loop-entry.invariant.count);
  sound = c.in_ok-add_step.ensures.sound;
  rest = each_goes_on (one_step c.args.at c.args.word) c.args.entries.now c.loop-entry.entry-index c.entry-item.result _
      _ _ c.loop-entry-test.true (rw (← c.entry-item.is) c.in_ok-add_step.ensures.gives) c.loop-entry.invariant.rest;
}

pub returns-clause-gives : goal.returns-clause-gives
returns-clause-gives c = each_is_done (one_step c.args.at c.args.word) c.args.entries.now c.loop-entry.entry-index _ _
    c.loop-entry-test.false c.loop-entry.invariant.rest

pub returns-clause-kept : goal.returns-clause-kept
returns-clause-kept c = record {
  few = omega (arith, c.loop-entry.invariant.count, c.loop-entry.auto.entry-index-end, c.requires);
  each = c.loop-entry.invariant.sound;
}
