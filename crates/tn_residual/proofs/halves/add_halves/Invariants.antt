-- What the loops of `add_halves` of `src/halves.rt` keep.
use Rattle.std.proofs.Common.{◌≡◌, ◌++◌, take}
use Rattle.tn_residual.specs.Residual.{halves_from}
use Rattle.tn_residual.proofs.halves.add_halves.Given as goal

abbrev pub invariant-loop-c : goal.invariant-loop-c
invariant-loop-c g l = l.trades.items ≡ l.initial.trades.items
    ++ halves_from l.market.trades l.firms (take l.c l.outcome.contracts)
