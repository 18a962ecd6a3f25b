-- What the loops of `own_trades` of `src/replay.rt` keep.
use Rattle.std.proofs.Common.{◌≡◌, map, take}
use Rattle.tn_model.specs.Network.{own}
use Rattle.tn_raw_answers.proofs.replay.own_trades.Given as goal

abbrev pub invariant-loop-k : goal.invariant-loop-k
invariant-loop-k l = l.trades.items ≡ map (own l.net.ends l.f) (take l.k l.positions)
