-- What shows the clauses of `each_member` of `src/own.rt`.
use Rattle.std.proofs.lemmas.Result.{err_from_is_err_and}
use Rattle.tn_read_units.specs.Own.{one_member}
use Rattle.tn_read_units.specs.Steps.{part_place}
use Rattle.tn_said.specs.declared.place.Word.TheVariants.{Trades}
use Rattle.tn_read_shapes.proofs.EachLemmas.{each_goes_on, each_is_done, each_fails}
use Rattle.tn_read_units.proofs.own.each_member.Goals as goal

pub returns-in_err-add_member : goal.returns-in_err-add_member
returns-in_err-add_member c =
    let p = err_from_is_err_and c.from_residual.result c.from_residual.ensures.1 in
    rw (p.1, p.2) (each_fails (one_member c.args.head.now c.args.at.firm (part_place c.args.at Trades))
    c.in_err-add_member.field-0.0 c.args.references.now c.loop-reference.reference-index c.reference-item.result _ _
    c.loop-reference-test.true (rw (← c.reference-item.is) c.in_err-add_member.ensures.gives) c.loop-reference.invariant.rest)

pub loop-reference-preserved : goal.loop-reference-preserved
loop-reference-preserved c = record {
  rest = each_goes_on (one_member c.args.head.now c.args.at.firm (part_place c.args.at Trades))
      c.args.references.now c.loop-reference.reference-index c.reference-item.result _ _ _ c.loop-reference-test.true
      (rw (← c.reference-item.is) c.in_ok-add_member.ensures.gives) c.loop-reference.invariant.rest;
}

pub returns : goal.returns
returns c = each_is_done (one_member c.args.head.now c.args.at.firm (part_place c.args.at Trades))
    c.args.references.now c.loop-reference.reference-index _ _ c.loop-reference-test.false c.loop-reference.invariant.rest
