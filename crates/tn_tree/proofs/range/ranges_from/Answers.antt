-- What shows the clauses of `ranges_from` of `src/range.rt`.
use Rattle.std.proofs.Common.{◌+◌}
use Rattle.tn_tree.proofs.RangeLemmas.{keeps-trans, range-same, ranges_push, walks-same}
use Rattle.tn_tree.proofs.range.ranges_from.Goals as goal

pub range_of-requires-clause-walks : goal.range_of-requires-clause-walks
range_of-requires-clause-walks c =
    walks-same c.args.market.now c.args.from_null c.args.to_null c.loop-t.from_null c.loop-t.to_null
    (c.args.place + c.loop-t.t) c.loop-t.invariant.from_walks c.loop-t.invariant.to_walks
    (c.requires.walks c.loop-t.t c.loop-t-test.true)

pub loop-t-preserved : goal.loop-t-preserved
loop-t-preserved c = record {
  ranges = ranges_push c.args.market.now c.args.from_null c.args.to_null c.args.place c.loop-t.t c.loop-t.ranges.items
      c.push.new.self.items c.in_ok-range_of.field-0 c.in_ok-push.ensures.items c.loop-t.invariant.ranges
      (range-same c.args.market.now c.args.from_null c.args.to_null c.loop-t.from_null c.loop-t.to_null
      (c.args.place + c.loop-t.t) c.in_ok-range_of.field-0 c.loop-t.invariant.from_walks c.loop-t.invariant.to_walks
      c.in_ok-range_of.ensures.range);
  from_walks = keeps-trans c.args.from_null c.loop-t.from_null c.range_of.new.from_null c.loop-t.invariant.from_walks
      c.range_of.ensures.from_walks;
  to_walks = keeps-trans c.args.to_null c.loop-t.to_null c.range_of.new.to_null c.loop-t.invariant.to_walks
      c.range_of.ensures.to_walks;
}
