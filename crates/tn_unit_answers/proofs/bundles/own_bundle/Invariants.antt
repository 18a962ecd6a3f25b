-- The bundle so far.
use Rattle.std.proofs.Common.{◌≡◌, map}
use Rattle.std.specs.Prelude.{nat_lt}
use Rattle.std.specs.List.{filter, range_with_len}
use Rattle.tn_tree.specs.Lists.{own_counts}
use Rattle.tn_unit_answers.specs.Bundles.{entry_at}
use Rattle.tn_unit_answers.proofs.bundles.own_bundle.Given as goal

abbrev pub invariant-loop-t : goal.invariant-loop-t
invariant-loop-t l = l.bundle.items ≡ filter (λ entry. nat_lt 0 entry.units)
    (map (entry_at l.trades l.firm (own_counts l.trades l.sold l.bought l.firm)) (range_with_len 0 l.t))
