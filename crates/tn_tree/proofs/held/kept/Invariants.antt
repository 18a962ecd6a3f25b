-- The counts so far.
use Rattle.std.proofs.Common.{◌≡◌, ℕ, ◌<◌, length, get_or}
use Rattle.tn_tree.specs.Held.{IsKept, gain_at}
use Rattle.tn_tree.specs.Lists.{count_in}
use Rattle.tn_tree.proofs.held.kept.Given as goal

abbrev pub invariant-loop-t : goal.invariant-loop-t
invariant-loop-t l = record {
  sized : length l.kept.items ≡ l.t;
  kept : (k : ℕ) → k < l.t → IsKept (gain_at l.firms (get_or l.ends k 0)) (count_in l.counts k) (count_in l.best k)
      (count_in l.kept.items k);
}
