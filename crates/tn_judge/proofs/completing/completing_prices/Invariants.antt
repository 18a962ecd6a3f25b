-- What the loops of `completing_prices` of `src/completing.rt` keep.
use Rattle.tn_judge.specs.Completion.{ArePricesTo}
use Rattle.tn_judge.proofs.completing.completing_prices.Given as goal

abbrev pub invariant-loop-t : goal.invariant-loop-t
invariant-loop-t l = ArePricesTo l.contracts l.finder.labels l.count l.t l.prices.items
