-- What the loops of `trades_of` of `src/positions.rt` keep.
use Rattle.std.proofs.Common.{◌≡◌}
use Rattle.tn_model.specs.Network.{trades_of}
use Rattle.tn_model.proofs.positions.trades_of.Given as goal

abbrev pub invariant-loop-k : goal.invariant-loop-k
invariant-loop-k l = l.trades.items ≡ trades_of l.ends l.f l.k l.bundle
