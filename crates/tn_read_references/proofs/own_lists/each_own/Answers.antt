-- What shows the clauses of `each_own` of `src/own_lists.rt`.
use Rattle.std.proofs.lemmas.Result.{err_from_is_err_and}
use Rattle.tn_read_references.specs.References.{own_reference, part_place}
use Rattle.tn_read_shapes.proofs.EachLemmas.{each_goes_on, each_is_done, each_fails}
use Rattle.tn_read_references.proofs.own_lists.each_own.Goals as goal

pub returns-in_err-bundle-clause-gives : goal.returns-in_err-bundle-clause-gives
returns-in_err-bundle-clause-gives c =
    let p = err_from_is_err_and c.from_residual.result c.from_residual.ensures.1 in
    rw (p.1, p.2)
    (each_fails (own_reference c.args.head.now c.args.part.firm (part_place c.args.part.firm c.args.part.at))
    c.in_err-bundle.field-0.0 c.args.references.now c.loop-reference.reference-index c.reference-item.result _ _
    c.loop-reference-test.true (rw (← c.reference-item.is) c.in_err-bundle.ensures.gives)
    c.loop-reference.invariant.rest)

pub loop-reference-preserved : goal.loop-reference-preserved
loop-reference-preserved c = record {
  own = c.in_ok-bundle.ensures.own;
  rest = each_goes_on (own_reference c.args.head.now c.args.part.firm (part_place c.args.part.firm c.args.part.at))
      c.args.references.now c.loop-reference.reference-index c.reference-item.result _ _ _ c.loop-reference-test.true
      (rw (← c.reference-item.is) c.in_ok-bundle.ensures.gives) c.loop-reference.invariant.rest;
}

pub returns-clause-gives : goal.returns-clause-gives
returns-clause-gives c =
    each_is_done (own_reference c.args.head.now c.args.part.firm (part_place c.args.part.firm c.args.part.at))
    c.args.references.now c.loop-reference.reference-index _ _ c.loop-reference-test.false
    c.loop-reference.invariant.rest
