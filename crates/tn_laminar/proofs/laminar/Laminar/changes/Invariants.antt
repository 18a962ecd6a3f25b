-- What the loops of `Laminar::changes` of `src/row.rt` keep.
use Rattle.tn_laminar.specs.Rows.{AreChanges}
use Rattle.tn_laminar.proofs.laminar.Laminar.changes.Given as goal

abbrev pub invariant-loop-k : goal.invariant-loop-k
invariant-loop-k l = AreChanges l.self.buys l.self.sets.items l.k l.x l.wanted l.changes
