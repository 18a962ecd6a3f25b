-- What shows the clauses of `judged` of `src/unit_outcomes.rt`: the contracts are read twice.
use Rattle.std.proofs.Common.{List, slice_get, ap, sym, ◌∙◌}
use Rattle.tn_counts.specs.declared.contract.UnitContract.{UnitContract}
use Rattle.tn_tests.proofs.unit_outcomes.judged.Goals as goal

pub judge_outcome-requires-clause-small : goal.judge_outcome-requires-clause-small
judge_outcome-requires-clause-small c = λ k contract at.
    (c.in_ok-are_served_contracts.ensures.yes c.if-not-branch.false).small k contract
    (ap (λ (xs : List UnitContract). slice_get xs k) (c.deref-2.ensures.value ∙ sym c.deref-3.ensures.value) ∙ at)
