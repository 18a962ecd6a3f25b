-- What the loops of `first_fault` of `src/faults.rt` keep.
use Rattle.tn_laminar.specs.Faults.{AreSoundBelow}
use Rattle.tn_laminar.proofs.faults.first_fault.Given as goal

abbrev pub invariant-loop-k : goal.invariant-loop-k
invariant-loop-k l = AreSoundBelow l.sets l.k
