-- What the loops of `mark_between` of `src/grown.rt` keep.
use Rattle.std.proofs.Common.{◌≡◌, ℕ, ◌<◌}
use Rattle.tn_cycle.specs.Graphs.{is_trade_from}
use Rattle.tn_cycle.specs.Kept.{flag_at}
use Rattle.tn_cycle.proofs.grown.mark_between.Given as goal

abbrev pub invariant-loop-v : goal.invariant-loop-v
invariant-loop-v l = (v : ℕ) → v < l.v → flag_at l.marks v ≡ is_trade_from l.first l.null v
