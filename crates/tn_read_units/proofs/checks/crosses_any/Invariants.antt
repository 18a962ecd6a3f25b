-- What the loops of `crosses_any` of `src/checks.rt` keep.
use Rattle.std.proofs.Common.{◌≡◌, false, take}
use Rattle.std.specs.List.{list_any}
use Rattle.tn_read_units.specs.Checks.{crosses}
use Rattle.tn_read_units.proofs.checks.crosses_any.Given as goal

abbrev pub invariant-loop-other : goal.invariant-loop-other
invariant-loop-other l = list_any (crosses l.set) (take l.other-index l.earlier) ≡ false
