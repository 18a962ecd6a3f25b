-- What shows the clauses of `run_cases` of `src/casing.rt`.
use Rattle.std.proofs.Common.{subst}
use Rattle.std.specs.Prelude.{Bool, IfSome, slice_get}
use Rattle.tn_run.specs.Cases.{IsPassed}
use Rattle.tn_run.proofs.CaseLemmas.{one_more_failed, one_more_passed}
use Rattle.tn_run.proofs.casing.run_cases.Goals.{then-not-branch+in_ok-push, else-not-branch}
use Rattle.tn_run.proofs.casing.run_cases.Goals as goal

pub loop-k-preserved : goal.loop-k-preserved
loop-k-preserved g c =
    let book = c.args.book.now in
    let k = c.loop-k.k in
    elim c.if-not-branch.branch [
      | then-not-branch+in_ok-push w ↦
          rw w.failed-is
          (rw w.in_ok-push.ensures.items
          (one_more_failed k book c.loop-k.failed.items c.loop-k.invariant
          (subst (λ (passed : Bool). IfSome (slice_get book k) (IsPassed passed)) w.if-not-branch.true
          c.in_ok-passes.ensures)))
      | else-not-branch w ↦
          rw w.failed-is
          (one_more_passed k book c.loop-k.failed.items c.loop-k.invariant
          (subst (λ (passed : Bool). IfSome (slice_get book k) (IsPassed passed)) w.if-not-branch.false
          c.in_ok-passes.ensures))
    ]
