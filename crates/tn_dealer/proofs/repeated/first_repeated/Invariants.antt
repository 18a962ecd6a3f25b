-- What the loops of `first_repeated` of `src/repeated.rt` keep.
use Rattle.tn_dealer.specs.Pairs.{AreDifferentBelow}
use Rattle.tn_dealer.proofs.repeated.first_repeated.Given as goal

abbrev pub invariant-loop-k : goal.invariant-loop-k
invariant-loop-k l = AreDifferentBelow l.pairs l.k
