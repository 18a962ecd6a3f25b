-- What the look at the sets before one keeps.
use Rattle.tn_counts.proofs.CheckLemmas.{AreNestedBelow}
use Rattle.tn_counts.proofs.checks.are_nested_in.Given as goal

-- the first of them are nested in it
abbrev pub invariant-loop-i : goal.invariant-loop-i
invariant-loop-i l = AreNestedBelow l.sets l.i l.k
