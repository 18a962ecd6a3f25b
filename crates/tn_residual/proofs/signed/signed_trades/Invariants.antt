-- What the loops of `signed_trades` of `src/signed.rt` keep.
use Rattle.std.proofs.Common.{◌≡◌}
use Rattle.tn_market.specs.Signed.{signed}
use Rattle.tn_residual.proofs.signed.signed_trades.Given as goal

abbrev pub invariant-loop-t : goal.invariant-loop-t
invariant-loop-t g l = l.on ≡ signed l.t l.contracts
