-- What the loops of `ends_of` of `src/solve.rt` keep.
use Rattle.std.proofs.Common.{◌≡◌, take}
use Rattle.tn_commands.proofs.solve.ends_of.Given as goal

abbrev pub invariant-loop-t : goal.invariant-loop-t
invariant-loop-t l = l.list.items ≡ take l.t l.market.trades
