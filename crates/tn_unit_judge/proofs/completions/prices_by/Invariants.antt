-- The prices after the contracts so far.
use Rattle.tn_unit_judge.proofs.FreeLemmas.{ArePriced}
use Rattle.tn_unit_judge.proofs.completions.prices_by.Given as goal

abbrev pub invariant-loop-contract : goal.invariant-loop-contract
invariant-loop-contract l = ArePriced l.trades l.contracts l.beside l.contract-index l.prices.items
