-- What shows the clauses of `each_amount` of `src/amounts.rt`.
use Rattle.std.proofs.lemmas.Result.{err_from_is_err_and}
use Rattle.tn_read_units.specs.Firms.{amounts_place, one_amount}
use Rattle.tn_read_shapes.proofs.EachLemmas.{each_goes_on, each_is_done, each_fails}
use Rattle.tn_read_units.proofs.amounts.each_amount.Goals as goal

pub returns-in_err-add_amount : goal.returns-in_err-add_amount
returns-in_err-add_amount c =
    let p = err_from_is_err_and c.from_residual.result c.from_residual.ensures.1 in
    rw (p.1, p.2) (each_fails (one_amount c.args.head.now c.args.f (amounts_place c.args.f))
    c.in_err-add_amount.field-0.0 c.args.entries.now c.loop-entry.entry-index c.entry-item.result _ _
    c.loop-entry-test.true (rw (← c.entry-item.is) c.in_err-add_amount.ensures.gives) c.loop-entry.invariant.rest)

pub loop-entry-preserved : goal.loop-entry-preserved
loop-entry-preserved c = record {
  rest = each_goes_on (one_amount c.args.head.now c.args.f (amounts_place c.args.f))
      c.args.entries.now c.loop-entry.entry-index c.entry-item.result _ _ _ c.loop-entry-test.true
      (rw (← c.entry-item.is) c.in_ok-add_amount.ensures.gives) c.loop-entry.invariant.rest;
}

pub returns : goal.returns
returns c = each_is_done (one_amount c.args.head.now c.args.f (amounts_place c.args.f))
    c.args.entries.now c.loop-entry.entry-index _ _ c.loop-entry-test.false c.loop-entry.invariant.rest
