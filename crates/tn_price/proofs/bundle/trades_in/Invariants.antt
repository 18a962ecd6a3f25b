-- What the loops of `trades_in` of `src/bundle.rt` keep.
use Rattle.std.proofs.Common.{◌≡◌}
use Rattle.tn_model.specs.Network.{trades_of}
use Rattle.tn_price.proofs.bundle.trades_in.Given as goal

abbrev pub invariant-loop-k : goal.invariant-loop-k
invariant-loop-k g l = l.trades.items ≡ trades_of l.market.trades l.f l.k l.bundle
