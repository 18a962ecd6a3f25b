-- What the loops of `first_above` of `src/plans.rt` keep.
use Rattle.tn_cert.specs.Plans.{HaveShares}
use Rattle.tn_cert.proofs.plans.first_above.Given as goal

abbrev pub invariant-loop-f : goal.invariant-loop-f
invariant-loop-f l = HaveShares l.plan l.over l.f
