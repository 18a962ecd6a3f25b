-- What the loops of `surplus_at` of `src/plans.rt` keep.
use Rattle.std.proofs.Common.{map}
use Rattle.tn_firm.specs.Raw.{raw_firm_of}
use Rattle.tn_cert.proofs.PlanSums.{IsSurplus}
use Rattle.tn_cert.proofs.plans.surplus_at.Given as goal

abbrev pub invariant-loop-f : goal.invariant-loop-f
invariant-loop-f l = IsSurplus (map raw_firm_of l.firms) l.ends l.on l.f l.surplus
