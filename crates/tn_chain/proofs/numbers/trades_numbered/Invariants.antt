-- What the loops of `trades_numbered` of `src/numbers.rt` keep.
use Rattle.std.proofs.Common.{◌≡◌}
use Rattle.tn_residual.specs.Residual.{number_from, unsigned_part}
use Rattle.tn_chain.proofs.numbers.trades_numbered.Given as goal

abbrev pub invariant-loop-t : goal.invariant-loop-t
invariant-loop-t l = record {
  counted : l.before ≡ number_from l.contracts 0 l.t;
  trades : l.trades ≡ unsigned_part l.contracts l.t l.numbers;
}
