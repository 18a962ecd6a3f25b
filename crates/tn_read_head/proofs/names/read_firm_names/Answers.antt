-- What shows the clauses of `read_firm_names` of `src/names.rt`.
use Rattle.std.proofs.Common.{◌∙◌, arith}
use Rattle.std.proofs.lemmas.Result.{err_from_is_err_and}
use Rattle.tn_read_head.specs.Naming.{one_firm_name}
use Rattle.tn_read_shapes.proofs.EachLemmas.{each_goes_on, each_is_done}
use Rattle.tn_read_head.proofs.BesideLemmas.{each_fails_beside}
use Rattle.tn_read_head.proofs.names.read_firm_names.Goals as goal

pub returns-in_err-read_firm_name-clause-gives : goal.returns-in_err-read_firm_name-clause-gives
returns-in_err-read_firm_name-clause-gives c =
    let p = err_from_is_err_and c.from_residual.result c.from_residual.ensures.1 in
    rw (p.1, p.2) (each_fails_beside one_firm_name _ c.in_err-read_firm_name.field-0.0 c.args.firms.now
    c.loop-firm.firm-index c.firm-item.result _ _ c.loop-firm-test.true
    (rw (← c.firm-item.is) c.in_err-read_firm_name.ensures.gives) c.loop-firm.invariant.rest)

pub loop-firm-preserved : goal.loop-firm-preserved
loop-firm-preserved c = record {
  count = omega (arith, c.in_ok-read_firm_name.ensures.count, c.loop-firm.invariant.count);
  trades = c.in_ok-read_firm_name.ensures.trades ∙ c.loop-firm.invariant.trades;
  rest = each_goes_on one_firm_name c.args.firms.now c.loop-firm.firm-index c.firm-item.result _ _ _
      c.loop-firm-test.true (rw (← c.firm-item.is) c.in_ok-read_firm_name.ensures.gives) c.loop-firm.invariant.rest;
}

pub returns-clause-gives : goal.returns-clause-gives
returns-clause-gives c =
    each_is_done one_firm_name c.args.firms.now c.loop-firm.firm-index _ _ c.loop-firm-test.false
    c.loop-firm.invariant.rest
