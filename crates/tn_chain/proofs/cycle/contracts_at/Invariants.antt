-- What the loops of `contracts_at` of `src/cycle.rt` keep.
use Rattle.tn_chain.specs.Listed.{AreAtNodes}
use Rattle.tn_chain.proofs.cycle.contracts_at.Given as goal

abbrev pub invariant-loop-k : goal.invariant-loop-k
invariant-loop-k l = AreAtNodes l.contracts l.solver.prices l.finder.listed l.first l.k l.made.items
