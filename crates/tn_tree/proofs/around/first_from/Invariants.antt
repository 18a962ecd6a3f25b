-- None of the sets so far is it.
use Rattle.std.proofs.Common.{◌≡◌, ◌-◌, ◌≤◌, length}
use Rattle.tn_counts.specs.Tree.{first_from}
use Rattle.tn_tree.proofs.around.first_from.Given as goal

abbrev pub invariant-loop-i : goal.invariant-loop-i
invariant-loop-i l = record {
  from : l.fn.from ≤ l.i;
  same : first_from l.sets l.firm l.trade l.root (length l.sets - l.fn.from) l.fn.from
      ≡ first_from l.sets l.firm l.trade l.root (length l.sets - l.i) l.i;
}
