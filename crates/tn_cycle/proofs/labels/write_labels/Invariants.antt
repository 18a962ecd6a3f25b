-- What the loops of `write_labels` of `src/labels.rt` keep.
use Rattle.std.proofs.Common.{◌≡◌, ℕ, ◌<◌, pos, ◌-ℤ◌}
use Rattle.std.specs.Prelude.{unwrap_or}
use Rattle.tn_cycle.specs.Cells.{cell_at}
use Rattle.tn_cycle.specs.Answers.{label_in}
use Rattle.tn_cycle.proofs.labels.write_labels.Given as goal

abbrev pub invariant-loop-v : goal.invariant-loop-v
invariant-loop-v l = (v : ℕ) → v < l.v → label_in l.labels v ≡ l.lowest -ℤ unwrap_or (cell_at l.row v).cost (pos 0)
