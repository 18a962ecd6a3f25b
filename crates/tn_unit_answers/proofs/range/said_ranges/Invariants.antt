-- The ranges so far.
use Rattle.std.proofs.Common.{◌≡◌, map, take}
use Rattle.tn_unit_answers.specs.Said.{said_range}
use Rattle.tn_unit_answers.proofs.range.said_ranges.Given as goal

abbrev pub invariant-loop-range : goal.invariant-loop-range
invariant-loop-range l = l.said.items ≡ map said_range (take l.range-index l.ranges)
