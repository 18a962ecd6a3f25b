-- What the loops of `worth_of_plan` of `src/plans.rt` keep.
use Rattle.std.proofs.Common.{map}
use Rattle.tn_firm.specs.Raw.{raw_firm_of}
use Rattle.tn_cert.proofs.PlanSums.{IsPlanned}
use Rattle.tn_cert.proofs.plans.worth_of_plan.Given as goal

abbrev pub invariant-loop-f : goal.invariant-loop-f
invariant-loop-f l = IsPlanned (map raw_firm_of l.firms) l.plan l.over l.f l.total
