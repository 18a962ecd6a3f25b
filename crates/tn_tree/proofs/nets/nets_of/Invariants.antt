-- What the trades and the first sets bring to each node.
use Rattle.std.proofs.Common.{◌≡◌, ℕ, suc, length, get_or, pos}
use Rattle.tn_counts.specs.Tree.{null_node}
use Rattle.tn_tree.proofs.NetLemmas.{flows_in}
use Rattle.tn_tree.proofs.nets.nets_of.Given as goal

abbrev pub invariant-loop-i : goal.invariant-loop-i
invariant-loop-i l = record {
  sized : length l.nets.items ≡ suc (null_node l.market);
  nets : (v : ℕ) → get_or l.nets.items v (pos 0) ≡ flows_in l.market l.sold l.bought l.i v;
}
