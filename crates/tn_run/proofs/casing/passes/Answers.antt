-- What shows the clauses of `passes` of `src/casing.rt`.
use Rattle.std.proofs.Common.{subst, ◌≡◌}
use Rattle.std.specs.Prelude.{IfOk, Some, option_map, slice_get}
use Rattle.tn_answer.specs.AnswerText.{answer_line}
use Rattle.tn_answer.specs.declared.layout.Layout.{Layout}
use Rattle.tn_cases.specs.Case.{agrees_with, case_data}
use Rattle.tn_run.specs.Run.{status_of}
use Rattle.tn_run.specs.Status.{status_number}
use Rattle.tn_run.proofs.CaseLemmas.{run_decides}
use Rattle.tn_run.proofs.casing.passes.Goals as goal

pub returns : goal.returns
returns g c =
    let found = slice_get c.args.book.now c.args.k in
    run_decides found (case_data c.case-one.result.now) c.in_ok-said.names c.in_ok-said.said c.is_told-told.result
    c.case-one.ensures.case c.in_ok-said.ensures.answer
    (subst (λ (layout : Layout). IfOk c.is_told-told.result (λ agrees. Some agrees
    ≡ option_map (agrees_with (status_number (status_of c.in_ok-said.said))
    (answer_line layout c.in_ok-said.names c.in_ok-said.said)) found)) c.case_layout.ensures c.is_told-told.ensures)
