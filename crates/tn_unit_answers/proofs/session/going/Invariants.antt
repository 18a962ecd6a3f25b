-- The trades so far of which some units go.
use Rattle.std.proofs.Common.{◌≡◌, map}
use Rattle.std.specs.Prelude.{nat_lt}
use Rattle.std.specs.List.{filter, range_with_len}
use Rattle.tn_unit_answers.specs.Session.{count_entry}
use Rattle.tn_unit_answers.proofs.session.going.Given as goal

abbrev pub invariant-loop-t : goal.invariant-loop-t
invariant-loop-t l =
    l.bundle.items ≡ filter (λ entry. nat_lt 0 entry.units) (map (count_entry l.counts) (range_with_len 0 l.t))
