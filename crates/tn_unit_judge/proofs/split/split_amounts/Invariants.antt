-- The amounts so far.
use Rattle.std.proofs.Common.{◌≡◌, map, take}
use Rattle.tn_counts.specs.Laminar.{amounts_at}
use Rattle.tn_unit_judge.specs.Split.{times_amounts}
use Rattle.tn_unit_judge.proofs.split.split_amounts.Given as goal

abbrev pub invariant-loop-t : goal.invariant-loop-t
invariant-loop-t l = l.made.items ≡ map (λ t. times_amounts l.over (amounts_at l.amounts t)) (take l.t-index l.from)
