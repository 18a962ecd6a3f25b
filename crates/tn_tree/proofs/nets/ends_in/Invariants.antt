-- What the first trades bring to each node.
use Rattle.std.proofs.Common.{◌≡◌, ℕ, suc, length, get_or, pos}
use Rattle.tn_links.specs.Totals.{total}
use Rattle.tn_counts.specs.Tree.{null_node}
use Rattle.tn_tree.specs.Nets.{end_at}
use Rattle.tn_tree.proofs.nets.ends_in.Given as goal

abbrev pub invariant-loop-t : goal.invariant-loop-t
invariant-loop-t l = record {
  sized : length l.nets.items ≡ suc (null_node l.market);
  nets : (v : ℕ) → get_or l.nets.items v (pos 0) ≡ total (end_at l.market l.sold l.bought v) l.t;
}
