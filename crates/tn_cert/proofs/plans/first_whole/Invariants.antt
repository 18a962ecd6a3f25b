-- What the loops of `first_whole` of `src/plans.rt` keep.
use Rattle.std.proofs.Common.{map}
use Rattle.tn_firm.specs.Raw.{raw_firm_of}
use Rattle.tn_cert.proofs.PlanSums.{IsWorthMoreBefore}
use Rattle.tn_cert.proofs.plans.first_whole.Given as goal

abbrev pub invariant-loop-bits : goal.invariant-loop-bits
invariant-loop-bits l = IsWorthMoreBefore (map raw_firm_of l.firms) l.ends l.over l.worth l.bits
