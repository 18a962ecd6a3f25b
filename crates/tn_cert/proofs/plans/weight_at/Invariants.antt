-- What the loops of `weight_at` of `src/plans.rt` keep.
use Rattle.std.specs.Prelude.{pos, if◌then◌else◌}
use Rattle.tn_base.specs.Sets.{has}
use Rattle.tn_cert.proofs.PlanSums.{IsWeight}
use Rattle.tn_cert.proofs.plans.weight_at.Given as goal

abbrev pub invariant-loop-i : goal.invariant-loop-i
invariant-loop-i l = IsWeight (λ p. if has p.bundle l.k then p.weight else pos 0) l.f l.plan l.i l.weight
