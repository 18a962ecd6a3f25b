-- What the loops of `Laminar::numbers` of `src/laminar.rt` keep.
use Rattle.tn_laminar.proofs.ValueLemmas.{CountsSoFar}
use Rattle.tn_laminar.proofs.laminar.Laminar.numbers.Given as goal

abbrev pub invariant-loop-k : goal.invariant-loop-k
invariant-loop-k l = CountsSoFar l.self.buys l.self.sets.items l.x l.k l.total
