-- What shows the clauses of `StallValuation::value` of `src/stalls.rt`.
use Rattle.std.proofs.Common.{ℤ, Some, ap, ◌∙◌, sym}
use Rattle.tn_tests.specs.StallLemmas.{stall-worth}
use Rattle.tn_tests.proofs.StallLemmas.{counted_sum}
use Rattle.tn_tests.proofs.stalls.StallValuation.value.Goals as goal

pub returns-clause-worth : goal.returns-clause-worth
returns-clause-worth c =
    let sum = counted_sum _ _ c.has.result c.has-2.result c.counted.result c.counted-2.result c.has.ensures
    c.has-2.ensures c.counted.ensures c.counted-2.ensures in
    ap (λ (z : ℤ). Some z) sum ∙ sym (stall-worth c.args.x c.requires)
