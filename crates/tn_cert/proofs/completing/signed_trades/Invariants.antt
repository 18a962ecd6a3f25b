-- What the loops of `signed_trades` of `src/completing.rt` keep.
use Rattle.std.proofs.Common.{◌≡◌}
use Rattle.tn_market.specs.Signed.{signed}
use Rattle.tn_cert.proofs.completing.signed_trades.Given as goal

abbrev pub invariant-loop-t : goal.invariant-loop-t
invariant-loop-t l = l.on ≡ signed l.t l.contracts
