-- The parts so far.
use Rattle.std.proofs.Common.{◌≡◌, ◌++◌, map}
use Rattle.std.specs.List.{range_with_len}
use Rattle.tn_counts.specs.Outcomes.{units_of}
use Rattle.tn_tree.specs.Lists.{count_in}
use Rattle.tn_unit_judge.proofs.split.all_parts.Given as goal

abbrev pub invariant-loop-t : goal.invariant-loop-t
invariant-loop-t l = l.parts.items ≡ map (λ contract. units_of l.trades contract.trade contract.units) l.contracts
    ++ map (λ t. units_of l.trades t (count_in l.free t)) (range_with_len 0 l.t)
