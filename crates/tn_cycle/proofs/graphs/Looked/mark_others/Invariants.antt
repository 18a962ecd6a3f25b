-- What the loops of `Looked::mark_others` of `src/graphs.rt` keep.
use Rattle.std.proofs.Common.{ℕ, ◌<◌}
use Rattle.tn_cycle.specs.Kept.{IsOther, flag_at}
use Rattle.tn_cycle.proofs.graphs.Looked.mark_others.Given as goal

abbrev pub invariant-loop-v : goal.invariant-loop-v
invariant-loop-v g l = (v : ℕ) → v < l.v
    → IsOther l.self.among.null l.self.node l.self.among.admitted.now v (flag_at l.marks v)
