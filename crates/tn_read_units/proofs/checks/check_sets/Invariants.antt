-- What the loops of `check_sets` of `src/checks.rt` keep.
use Rattle.std.proofs.Common.{◌≡◌, [], drop, take}
use Rattle.tn_read_units.specs.Checks.{check_sets}
use Rattle.tn_read_units.proofs.checks.check_sets.Given as goal

abbrev pub invariant-loop-k : goal.invariant-loop-k
invariant-loop-k l = check_sets l.f (take l.k l.sets) (drop l.k l.sets) ≡ check_sets l.f [] l.sets
