-- What the loops of `parts_worth` of `src/plans.rt` keep.
use Rattle.tn_firm.specs.Raw.{raw_firm_of}
use Rattle.tn_cert.proofs.PlanSums.{IsWorth}
use Rattle.tn_cert.proofs.plans.parts_worth.Given as goal

abbrev pub invariant-loop-k : goal.invariant-loop-k
invariant-loop-k l = IsWorth (raw_firm_of l.firm) l.f l.plan l.k l.total
