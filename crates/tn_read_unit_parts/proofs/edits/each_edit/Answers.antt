-- What shows the clauses of `each_edit` of `src/edits.rt`.
use Rattle.std.proofs.Common.{arith}
use Rattle.std.proofs.lemmas.Result.{err_from_is_err_and}
use Rattle.tn_read_unit_parts.specs.Edited.{one_edit}
use Rattle.tn_read_shapes.proofs.EachLemmas.{each_goes_on, each_is_done, each_fails}
use Rattle.tn_read_unit_parts.proofs.edits.each_edit.Goals as goal

pub returns-in_err-add_edit : goal.returns-in_err-add_edit
returns-in_err-add_edit c =
    let p = err_from_is_err_and c.from_residual.result c.from_residual.ensures.1 in
    rw (p.1, p.2) (each_fails (one_edit c.args.head.now) c.in_err-add_edit.field-0.0 c.args.entries.now
    c.loop-entry.entry-index c.entry-item.result _ _ c.loop-entry-test.true
    (rw (← c.entry-item.is) c.in_err-add_edit.ensures.gives) c.loop-entry.invariant.rest)

pub loop-entry-preserved : goal.loop-entry-preserved
loop-entry-preserved c = record {
  count = omega (arith, c.in_ok-add_edit.ensures.count, c.loop-entry.invariant.count);
  rest = each_goes_on (one_edit c.args.head.now) c.args.entries.now c.loop-entry.entry-index c.entry-item.result _
      _ _ c.loop-entry-test.true (rw (← c.entry-item.is) c.in_ok-add_edit.ensures.gives) c.loop-entry.invariant.rest;
}

pub returns : goal.returns
returns c = each_is_done (one_edit c.args.head.now) c.args.entries.now c.loop-entry.entry-index _ _
    c.loop-entry-test.false c.loop-entry.invariant.rest
