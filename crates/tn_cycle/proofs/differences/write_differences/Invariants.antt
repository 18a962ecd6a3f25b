-- What the loops of `write_differences` of `src/differences.rt` keep.
use Rattle.std.proofs.Common.{◌≡◌, ℕ, ◌<◌, ◌-ℤ◌, pos, length}
use Rattle.std.specs.Prelude.{slice_index_or}
use Rattle.tn_cycle.specs.Answers.{label_in}
use Rattle.tn_cycle.proofs.differences.write_differences.Given as goal

abbrev pub invariant-loop-t : goal.invariant-loop-t
invariant-loop-t l = record {
  one_each : length l.into.items ≡ l.count;
  each : (k : ℕ) → k < l.t → slice_index_or l.into.items k (pos 0) ≡ label_in l.finder.labels k
      -ℤ label_in l.finder.labels l.count;
}
