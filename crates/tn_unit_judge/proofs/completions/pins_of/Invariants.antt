-- The pins so far.
use Rattle.std.proofs.Common.{◌≡◌, map}
use Rattle.std.specs.List.{range_with_len}
use Rattle.tn_unit_judge.specs.Completion.{contract_pin}
use Rattle.tn_unit_judge.proofs.completions.pins_of.Given as goal

abbrev pub invariant-loop-k : goal.invariant-loop-k
invariant-loop-k l = l.pins.items ≡ map (contract_pin l.contracts) (range_with_len 0 l.k)
