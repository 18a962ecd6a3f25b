-- What the loops of `counts_of` of `src/arrangement.rt` keep.
use Rattle.std.proofs.Common.{◌≡◌, map, take}
use Rattle.std.specs.Prelude.{unsigned_abs}
use Rattle.tn_read_unit_parts.proofs.arrangement.counts_of.Given as goal

abbrev pub invariant-loop-z : goal.invariant-loop-z
invariant-loop-z l = l.counts.items ≡ map unsigned_abs (take l.z-index l.units)
