-- The counts so far.
use Rattle.std.proofs.Common.{◌≡◌, ◌++◌, map}
use Rattle.std.specs.List.{range_with_len}
use Rattle.tn_unit_judge.proofs.lists.counts_of.Given as goal

abbrev pub invariant-loop : goal.invariant-loop
invariant-loop l = l.counts.items ≡ map (λ contract. contract.units) l.contracts ++ map (λ t. 0) (range_with_len 0 l.counter)
