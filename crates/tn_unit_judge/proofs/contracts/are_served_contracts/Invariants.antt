-- The contracts so far are served.
use Rattle.tn_unit_judge.proofs.FreeLemmas.{AreServedTo}
use Rattle.tn_unit_judge.proofs.contracts.are_served_contracts.Given as goal

abbrev pub invariant-loop-contract : goal.invariant-loop-contract
invariant-loop-contract l = AreServedTo l.trades l.contracts l.contract-index l.free.items
