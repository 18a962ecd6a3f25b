-- The trades so far.
use Rattle.std.proofs.Common.{◌≡◌, ◌++◌, map}
use Rattle.std.specs.List.{range_with_len}
use Rattle.tn_unit_judge.proofs.split.origins_of.Given as goal

abbrev pub invariant-loop-t : goal.invariant-loop-t
invariant-loop-t l = l.from.items ≡ map (λ contract. contract.trade) l.contracts ++ map (λ t. t) (range_with_len 0 l.t)
