-- What the loops of `free_trades` of `src/halves.rt` keep.
use Rattle.std.proofs.Common.{◌≡◌, take}
use Rattle.tn_residual.specs.Residual.{unsigned_from}
use Rattle.tn_residual.proofs.halves.free_trades.Given as goal

abbrev pub invariant-loop-t : goal.invariant-loop-t
invariant-loop-t g l = l.trades.items ≡ unsigned_from l.outcome.contracts 0 (take l.t l.market.trades)
