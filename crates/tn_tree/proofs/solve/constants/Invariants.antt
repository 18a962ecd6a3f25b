-- The sum so far, and the rest.
use Rattle.std.proofs.Common.{◌≡◌, ◌+ℤ◌, ◌*◌, drop}
use Rattle.tn_base.specs.Arcs.{IsAtMost}
use Rattle.tn_counts.specs.Laminar.{constants}
use Rattle.tn_counts.specs.Widths.{most_unit_amount}
use Rattle.tn_tree.proofs.solve.constants.Given as goal

abbrev pub invariant-loop-set : goal.invariant-loop-set
invariant-loop-set l = record {
  sum : constants l.sets ≡ l.sum +ℤ constants (drop l.set-index l.sets);
  small : IsAtMost l.sum (l.set-index * most_unit_amount);
}
