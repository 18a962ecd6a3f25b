-- What shows the clauses of `read_entries` of `src/own_numbers.rt`.
use Rattle.std.proofs.Common.{◌∙◌}
use Rattle.std.proofs.lemmas.Result.{err_from_is_err_and}
use Rattle.tn_read_firms.specs.OwnNumbers.{one_own}
use Rattle.tn_read_shapes.proofs.EachLemmas.{each_goes_on, each_is_done, each_fails}
use Rattle.tn_read_firms.proofs.own_numbers.read_entries.Goals as goal

pub returns-in_err-add_entry-clause-gives : goal.returns-in_err-add_entry-clause-gives
returns-in_err-add_entry-clause-gives c =
    let p = err_from_is_err_and c.from_residual.result c.from_residual.ensures.1 in
    rw (p.1, p.2) (each_fails (one_own c.args.head.now c.args.list) c.in_err-add_entry.field-0.0 c.args.entries.now
    c.loop-entry.entry-index c.entry-item.result _ _ c.loop-entry-test.true
    (rw (← c.entry-item.is) c.in_err-add_entry.ensures.gives) c.loop-entry.invariant.rest)

pub loop-entry-preserved : goal.loop-entry-preserved
loop-entry-preserved c = record {
  places = c.in_ok-add_entry.ensures.places ∙ c.loop-entry.invariant.places;
  rest = each_goes_on (one_own c.args.head.now c.args.list) c.args.entries.now c.loop-entry.entry-index
      c.entry-item.result _ _ _ c.loop-entry-test.true (rw (← c.entry-item.is) c.in_ok-add_entry.ensures.gives)
      c.loop-entry.invariant.rest;
}

pub returns-clause-gives : goal.returns-clause-gives
returns-clause-gives c =
    each_is_done (one_own c.args.head.now c.args.list) c.args.entries.now c.loop-entry.entry-index _ _
    c.loop-entry-test.false c.loop-entry.invariant.rest
