-- What the loops of `trades_on` of `src/solve.rt` keep.
use Rattle.std.proofs.Common.{◌≡◌}
use Rattle.tn_model.specs.Network.{trades_on}
use Rattle.tn_commands.proofs.solve.trades_on.Given as goal

abbrev pub invariant-loop-t : goal.invariant-loop-t
invariant-loop-t l = l.trades.items ≡ trades_on l.on l.t
