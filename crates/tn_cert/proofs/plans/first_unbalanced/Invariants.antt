-- What the loops of `first_unbalanced` of `src/plans.rt` keep.
use Rattle.tn_cert.specs.Plans.{AreBalanced}
use Rattle.tn_cert.proofs.plans.first_unbalanced.Given as goal

abbrev pub invariant-loop-t : goal.invariant-loop-t
invariant-loop-t l = AreBalanced l.ends l.plan l.t
