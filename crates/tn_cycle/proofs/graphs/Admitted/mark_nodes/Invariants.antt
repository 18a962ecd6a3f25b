-- What the loops of `Admitted::mark_nodes` of `src/graphs.rt` keep.
use Rattle.std.proofs.Common.{◌≡◌, ℕ, ◌<◌}
use Rattle.tn_base.specs.Walks.{is_admitted}
use Rattle.tn_cycle.specs.Kept.{flag_at}
use Rattle.tn_cycle.proofs.graphs.Admitted.mark_nodes.Given as goal

abbrev pub invariant-loop-v : goal.invariant-loop-v
invariant-loop-v g l = (v : ℕ) → v < l.v → flag_at l.marks v ≡ is_admitted l.self.null l.self.admitted.now v
