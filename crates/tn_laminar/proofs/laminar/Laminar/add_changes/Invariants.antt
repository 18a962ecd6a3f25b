-- What the loops of `Laminar::add_changes` of `src/row.rt` keep.
use Rattle.std.specs.Prelude.{slice_get, Some}
use Rattle.std.proofs.Common.{◌≡◌}
use Rattle.tn_base.specs.Sets.{size}
use Rattle.tn_laminar.specs.declared.set.LaminarSet.{LaminarSet}
use Rattle.tn_laminar.proofs.RowLemmas.{IsAdding}
use Rattle.tn_laminar.proofs.laminar.Laminar.add_changes.Given as goal

abbrev pub invariant-loop-x : goal.invariant-loop-x
invariant-loop-x l = (set : LaminarSet) → slice_get l.self.sets.items l.k ≡ Some set
    → IsAdding l.self.buys l.self.sets.items l.k l.x l.fn.wanted set.members l.rest l.changes

abbrev pub decreases-loop-x : goal.decreases-loop-x
decreases-loop-x l = size l.rest
