-- The sets so far.
use Rattle.std.proofs.Common.{◌≡◌, ℕ, length, slice_get, Some}
use Rattle.tn_counts.specs.declared.set.CountSet.{CountSet}
use Rattle.tn_unit_judge.specs.Split.{IsSplitSet}
use Rattle.tn_unit_judge.proofs.split.split_sets.Given as goal

abbrev pub invariant-loop-i : goal.invariant-loop-i
invariant-loop-i l = record {
  sized : length l.splits.items ≡ l.i;
  each : (j : ℕ) (set split : CountSet) → slice_get l.sets j ≡ Some set → slice_get l.splits.items j ≡ Some split
      → IsSplitSet l.over l.from set split;
}
