-- What the loops of `prices_of` of `src/solve.rt` keep.
use Rattle.std.proofs.Common.{◌≡◌, take}
use Rattle.tn_commands.proofs.solve.prices_of.Given as goal

abbrev pub invariant-loop-t : goal.invariant-loop-t
invariant-loop-t l = l.prices.items ≡ take l.t l.solver.prices
