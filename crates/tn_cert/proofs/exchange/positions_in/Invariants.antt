-- What the loops of `positions_in` of `src/exchange.rt` keep.
use Rattle.std.proofs.Common.{◌≡◌}
use Rattle.tn_model.specs.Network.{trades_on}
use Rattle.tn_cert.proofs.exchange.positions_in.Given as goal

abbrev pub invariant-loop-k : goal.invariant-loop-k
invariant-loop-k l = l.positions.items ≡ trades_on l.bundle l.k
