-- What the sum of costs keeps.
use Rattle.std.proofs.Common.{◌≡◌, ◌*◌, ◌^◌, ◌+ℤ◌, drop}
use Rattle.tn_base.specs.Arcs.{IsAtMost}
use Rattle.tn_links.specs.Widths.{most_each}
use Rattle.tn_dimacs.specs.Circulations.{cost_of}
use Rattle.tn_dimacs.proofs.least.cost_of.Given as goal

-- the sum so far, and the cost of the rest
abbrev pub invariant-loop-k : goal.invariant-loop-k
invariant-loop-k l = record {
  whole : cost_of l.arcs l.flows ≡ l.sum +ℤ cost_of (drop l.k l.arcs) (drop l.k l.flows);
  small : IsAtMost l.sum (l.k * (2 ^ 32 * most_each));
}
