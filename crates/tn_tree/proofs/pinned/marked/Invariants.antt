-- What the marks keep.
use Rattle.std.proofs.Common.{◌≡◌, ℕ, ◌+◌, ◌<◌, ◌≤◌, length, get_or}
use Rattle.tn_tree.specs.Lists.{count_in}
use Rattle.tn_tree.proofs.pinned.marked.Given as goal

-- the trades of the first nodes are marked
abbrev pub invariant-loop-node : goal.invariant-loop-node
invariant-loop-node l = record {
  sized : length l.passed.items ≡ l.trades;
  single : (t : ℕ) → count_in l.passed.items t ≤ 1;
  own : (t i : ℕ) → t < l.trades → i < l.node-index → get_or l.listed i 0 ≡ l.first + t
      → count_in l.passed.items t ≡ 1;
}
