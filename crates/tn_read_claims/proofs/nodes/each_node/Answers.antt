-- What shows the clauses of `each_node` of `src/nodes.rt`.
use Rattle.std.proofs.Common.{arith}
use Rattle.std.proofs.lemmas.Result.{err_from_is_err_and}
use Rattle.tn_read_claims.specs.Members.{one_node}
use Rattle.tn_read_shapes.proofs.EachLemmas.{each_goes_on, each_is_done, each_fails}
use Rattle.tn_read_claims.proofs.nodes.each_node.Goals as goal

pub returns-in_err-add_node : goal.returns-in_err-add_node
returns-in_err-add_node c =
    let p = err_from_is_err_and c.from_residual.result c.from_residual.ensures.1 in
    rw (p.1, p.2) (each_fails (one_node c.args.head.now.names.trades) c.in_err-add_node.field-0.0 c.args.values.now
    c.loop-value.value-index c.value-item.result _ _ c.loop-value-test.true
    (rw (← c.value-item.is) c.in_err-add_node.ensures.gives) c.loop-value.invariant.rest)

pub loop-value-preserved : goal.loop-value-preserved
loop-value-preserved c = record {
  count = omega (arith, c.in_ok-add_node.ensures.count, c.loop-value.invariant.count);
  rest = each_goes_on (one_node c.args.head.now.names.trades) c.args.values.now c.loop-value.value-index
      c.value-item.result _ _ _ c.loop-value-test.true (rw (← c.value-item.is) c.in_ok-add_node.ensures.gives)
      c.loop-value.invariant.rest;
}

pub returns : goal.returns
returns c = each_is_done (one_node c.args.head.now.names.trades) c.args.values.now c.loop-value.value-index _ _
    c.loop-value-test.false c.loop-value.invariant.rest
