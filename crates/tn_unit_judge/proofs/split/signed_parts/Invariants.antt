-- The parts so far.
use Rattle.std.proofs.Common.{◌≡◌, map, take}
use Rattle.tn_counts.specs.Outcomes.{units_of}
use Rattle.tn_unit_judge.proofs.split.signed_parts.Given as goal

abbrev pub invariant-loop-contract : goal.invariant-loop-contract
invariant-loop-contract l = l.parts.items
    ≡ map (λ contract. units_of l.trades contract.trade contract.units) (take l.contract-index l.contracts)
