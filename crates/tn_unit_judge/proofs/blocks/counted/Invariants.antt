-- The contracts so far.
use Rattle.std.proofs.Common.{◌≡◌, map, take, pos, ◌*ℤ◌}
use Rattle.tn_unit_judge.proofs.blocks.counted.Given as goal

abbrev pub invariant-loop-contract : goal.invariant-loop-contract
invariant-loop-contract l = l.made.items ≡ map (λ contract. record {
  trade = contract.trade;
  units = contract.units;
  price = pos l.scale *ℤ contract.price;
}) (take l.contract-index l.contracts)
