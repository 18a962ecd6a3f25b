-- What the loops of `sign` of `src/walks.rt` keep.
use Rattle.std.proofs.Common.{◌≡◌, ℕ, ◌<◌, ◌≤◌}
use Rattle.tn_cycle.specs.Answers.{label_in}
use Rattle.tn_cycle.specs.Kept.{negated_if}
use Rattle.tn_cycle.proofs.walks.sign.Given as goal

abbrev pub invariant-loop-v : goal.invariant-loop-v
invariant-loop-v l = record {
  written : (k : ℕ) → k < l.v → label_in l.labels k ≡ negated_if l.negates (label_in l.initial.labels k);
  left : (k : ℕ) → l.v ≤ k → label_in l.labels k ≡ label_in l.initial.labels k;
}
