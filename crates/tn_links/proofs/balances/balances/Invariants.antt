-- What the first links bring to each node.
use Rattle.std.proofs.Common.{◌≡◌, ℕ, ◌*◌, ◌^◌, length, get_or, drop, pos, ◌+ℤ◌}
use Rattle.tn_base.specs.Arcs.{IsAtMost}
use Rattle.tn_links.specs.Flows.{balance}
use Rattle.tn_links.proofs.balances.balances.Given as goal

abbrev pub invariant-loop-j : goal.invariant-loop-j
invariant-loop-j l = record {
  sized : length l.balances.items ≡ l.nodes;
  all : (v : ℕ) → balance l.links l.levels v
      ≡ get_or l.balances.items v (pos 0) +ℤ balance (drop l.j l.links) (drop l.j l.levels) v;
  small : (v : ℕ) → IsAtMost (get_or l.balances.items v (pos 0)) (l.j * 2 ^ 34);
}
