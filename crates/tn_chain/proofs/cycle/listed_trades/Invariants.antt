-- What the loops of `listed_trades` of `src/cycle.rt` keep.
use Rattle.tn_chain.specs.Listed.{HasNodes}
use Rattle.tn_chain.proofs.cycle.listed_trades.Given as goal

abbrev pub invariant-loop-k : goal.invariant-loop-k
invariant-loop-k l = HasNodes l.null l.finder.listed l.k l.trades
