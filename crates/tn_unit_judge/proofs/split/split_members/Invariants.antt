-- The parts so far.
use Rattle.std.proofs.Common.{◌≡◌, ◌==◌, ◌&&◌, ℕ, get_or}
use Rattle.std.specs.Prelude.{nat_lt}
use Rattle.std.specs.List.{list_any}
use Rattle.tn_counts.specs.Laminar.{holds}
use Rattle.tn_unit_judge.proofs.split.split_members.Given as goal

abbrev pub invariant-loop-k : goal.invariant-loop-k
invariant-loop-k l = (k : ℕ) → list_any (λ j. j == k) l.members.items
    ≡ (nat_lt k l.k && holds l.set (get_or l.from k 0))
