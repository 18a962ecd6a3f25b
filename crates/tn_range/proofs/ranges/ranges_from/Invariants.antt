-- What the loops of `ranges_from` of `src/ranges.rt` keep.
use Rattle.tn_range.specs.Shown.{AreRangesBy, KeepsWalks}
use Rattle.tn_range.proofs.ranges.ranges_from.Given as goal

abbrev pub invariant-loop-t : goal.invariant-loop-t
invariant-loop-t l = AreRangesBy l.trades l.t l.initial.from_null l.initial.to_null l.ranges.items
    × KeepsWalks l.initial.from_null l.from_null × KeepsWalks l.initial.to_null l.to_null
