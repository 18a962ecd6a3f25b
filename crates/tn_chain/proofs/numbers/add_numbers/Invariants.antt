-- What the loops of `add_numbers` of `src/numbers.rt` keep.
use Rattle.tn_chain.specs.Numbers.{AreNumbersUpTo}
use Rattle.tn_chain.proofs.numbers.add_numbers.Given as goal

abbrev pub invariant-loop-s : goal.invariant-loop-s
invariant-loop-s l = AreNumbersUpTo l.initial.numbers l.from l.s l.numbers
