-- What the loops of `own_trades` of `src/market.rt` keep.
use Rattle.tn_market.specs.Traded.{ArePlaced}
use Rattle.tn_market.proofs.market.own_trades.Given as goal

abbrev pub invariant-loop-t : goal.invariant-loop-t
invariant-loop-t l = ArePlaced l.trades l.f l.n l.t l.own.items
