-- What the loops of `costs_of` of `src/costs.rt` keep.
use Rattle.tn_dealer.specs.Costs.{AreCostsBelow}
use Rattle.tn_dealer.proofs.costs.costs_of.Given as goal

abbrev pub invariant-loop-pair : goal.invariant-loop-pair
invariant-loop-pair l = AreCostsBelow l.pairs l.pair-index l.costs
