-- What the loops of `share_of` of `src/plans.rt` keep.
use Rattle.tn_cert.proofs.PlanSums.{IsWeight}
use Rattle.tn_cert.proofs.plans.share_of.Given as goal

abbrev pub invariant-loop-k : goal.invariant-loop-k
invariant-loop-k l = IsWeight (λ p. p.weight) l.f l.plan l.k l.share
