-- The prices so far.
use Rattle.std.proofs.Common.{◌≡◌, map, take}
use Rattle.tn_unit_judge.proofs.lists.contract_prices.Given as goal

abbrev pub invariant-loop-contract : goal.invariant-loop-contract
invariant-loop-contract l = l.prices.items ≡ map (λ contract. contract.price) (take l.contract-index l.contracts)
