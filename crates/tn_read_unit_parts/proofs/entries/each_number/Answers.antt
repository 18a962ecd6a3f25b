-- What shows the clauses of `each_number` of `src/entries.rt`.
use Rattle.std.proofs.Common.{◌∙◌}
use Rattle.std.proofs.lemmas.Result.{err_from_is_err_and}
use Rattle.tn_read_shapes.proofs.EachLemmas.{each_goes_on, each_is_done, each_fails}
use Rattle.tn_read_unit_parts.specs.Entries.{one_number}
use Rattle.tn_read_unit_parts.proofs.entries.each_number.Goals as goal

pub returns-in_err-add_number-clause-gives : goal.returns-in_err-add_number-clause-gives
returns-in_err-add_number-clause-gives c =
    let p = err_from_is_err_and c.from_residual.result c.from_residual.ensures.1 in
    rw (p.1, p.2) (each_fails (one_number c.args.head.now c.args.numbers) c.in_err-add_number.field-0.0
    c.args.entries.now c.loop-entry.entry-index c.entry-item.result _ _ c.loop-entry-test.true
    (rw (← c.entry-item.is) c.in_err-add_number.ensures.gives) c.loop-entry.invariant.rest)

pub loop-entry-preserved : goal.loop-entry-preserved
loop-entry-preserved c = record {
  places = c.in_ok-add_number.ensures.places ∙ c.loop-entry.invariant.places;
  rest = each_goes_on (one_number c.args.head.now c.args.numbers) c.args.entries.now c.loop-entry.entry-index
      c.entry-item.result _ _ _ c.loop-entry-test.true (rw (← c.entry-item.is) c.in_ok-add_number.ensures.gives)
      c.loop-entry.invariant.rest;
}

pub returns-clause-gives : goal.returns-clause-gives
returns-clause-gives c =
    each_is_done (one_number c.args.head.now c.args.numbers) c.args.entries.now c.loop-entry.entry-index _ _
    c.loop-entry-test.false c.loop-entry.invariant.rest
