-- What the loops of `are_held_by_few` of `src/checks.rt` keep.
use Rattle.std.proofs.Common.{◌≡◌, true, nat_lt, take}
use Rattle.std.specs.List.{list_all}
use Rattle.tn_read_units.specs.Checks.{holding}
use Rattle.tn_read_units.specs.Limits.{most_holding_sets}
use Rattle.tn_read_units.proofs.checks.are_held_by_few.Given as goal

abbrev pub invariant-loop-t : goal.invariant-loop-t
invariant-loop-t l =
    list_all (λ t. nat_lt (holding l.earlier t) most_holding_sets) (take l.t-index l.set.members.trades) ≡ true
