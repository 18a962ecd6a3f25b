-- What shows the clauses of `Bundle::union` of `src/bundle.rt`.
use Rattle.std.proofs.lemmas.Nat.{or_lt}
use Rattle.tn_base.proofs.bundle.Bundle.union.Goals as goal

pub invariant_of-result : goal.invariant_of-result
invariant_of-result c = or_lt 64 _ _ c.self.invariant c.other.invariant
