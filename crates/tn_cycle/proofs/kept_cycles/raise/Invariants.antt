-- What the loops of `raise` of `src/kept_cycles.rt` keep.
use Rattle.std.proofs.Common.{◌≡◌, ◌≢◌, ℕ, ◌<◌, ◌≤◌}
use Rattle.tn_cycle.specs.Answers.{label_in}
use Rattle.tn_cycle.specs.Cells.{cell_at}
use Rattle.tn_cycle.specs.Kept.{IsRaised}
use Rattle.tn_cycle.proofs.kept_cycles.raise.Given as goal

abbrev pub invariant-loop-v : goal.invariant-loop-v
invariant-loop-v l = record {
  raised : (k : ℕ) → k < l.v → (k ≡ l.node → label_in l.labels k ≡ label_in l.initial.labels k)
      × (k ≢ l.node → IsRaised (label_in l.initial.labels k) (cell_at l.row k).cost l.limit (label_in l.labels k));
  left : (k : ℕ) → l.v ≤ k → label_in l.labels k ≡ label_in l.initial.labels k;
}
