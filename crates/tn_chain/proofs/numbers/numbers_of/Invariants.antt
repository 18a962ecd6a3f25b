-- What the loops of `numbers_of` of `src/numbers.rt` keep.
use Rattle.std.proofs.Common.{◌≡◌}
use Rattle.tn_residual.specs.Residual.{number_from}
use Rattle.tn_chain.specs.Numbers.{AreNumbers}
use Rattle.tn_chain.proofs.numbers.numbers_of.Given as goal

abbrev pub invariant-loop-t : goal.invariant-loop-t
invariant-loop-t l = record {
  counted : l.before ≡ number_from l.contracts 0 l.t;
  numbers : AreNumbers l.contracts l.set l.t l.numbers;
}
