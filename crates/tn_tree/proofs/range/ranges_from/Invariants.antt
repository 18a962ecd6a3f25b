-- The ranges so far, and the walks that are read.
use Rattle.tn_tree.specs.Ranges.{AreRangesBy, KeepsWalks}
use Rattle.tn_tree.proofs.range.ranges_from.Given as goal

abbrev pub invariant-loop-t : goal.invariant-loop-t
invariant-loop-t l = record {
  ranges : AreRangesBy l.market l.initial.from_null l.initial.to_null l.place l.t l.ranges.items;
  from_walks : KeepsWalks l.initial.from_null l.from_null;
  to_walks : KeepsWalks l.initial.to_null l.to_null;
}
