-- What the loops of `unsigned_before` of `src/numbers.rt` keep.
use Rattle.std.proofs.Common.{◌≡◌}
use Rattle.tn_residual.specs.Residual.{number_from}
use Rattle.tn_chain.proofs.numbers.unsigned_before.Given as goal

abbrev pub invariant-loop-i : goal.invariant-loop-i
invariant-loop-i l = l.number ≡ number_from l.contracts 0 l.i
