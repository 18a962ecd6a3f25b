-- What the loops of `node_prices` of `src/completing.rt` keep.
use Rattle.tn_judge.proofs.CompletionLemmas.{ArePricedBelow}
use Rattle.tn_judge.proofs.completing.node_prices.Given as goal

abbrev pub invariant-loop-v : goal.invariant-loop-v
invariant-loop-v l = ArePricedBelow l.contracts l.v l.prices.items
