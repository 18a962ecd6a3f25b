-- What the loops of `unsigned_trades` of `src/numbers.rt` keep.
use Rattle.std.proofs.Common.{◌≡◌}
use Rattle.tn_residual.specs.Residual.{unsigned}
use Rattle.tn_chain.proofs.numbers.unsigned_trades.Given as goal

abbrev pub invariant-loop-t : goal.invariant-loop-t
invariant-loop-t l = l.unsigned ≡ unsigned l.t l.contracts
