-- The prices so far.
use Rattle.std.proofs.Common.{◌≡◌, ◌++◌, map, pos}
use Rattle.std.specs.List.{range_with_len}
use Rattle.tn_unit_judge.proofs.lists.prices_of.Given as goal

abbrev pub invariant-loop : goal.invariant-loop
invariant-loop l = l.prices.items
    ≡ map (λ contract. contract.price) l.contracts ++ map (λ t. pos 0) (range_with_len 0 l.counter)
