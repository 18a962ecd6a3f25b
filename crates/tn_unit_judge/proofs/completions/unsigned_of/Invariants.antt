-- What is left of each trade after the contracts so far.
use Rattle.tn_unit_judge.proofs.FreeLemmas.{AreLeft}
use Rattle.tn_unit_judge.proofs.completions.unsigned_of.Given as goal

abbrev pub invariant-loop-contract : goal.invariant-loop-contract
invariant-loop-contract l = AreLeft l.trades l.contracts l.contract-index l.free.items
