-- What shows the clauses of `ranges_from` of `src/ranges.rt`.
use Rattle.tn_range.proofs.RangeLemmas.{keeps-trans, ranges-push}
use Rattle.tn_range.proofs.ranges.ranges_from.Goals as goal

pub loop-t-preserved : goal.loop-t-preserved
loop-t-preserved c = (
  ranges-push c.args.trades c.loop-t.t c.args.from_null c.args.to_null c.loop-t.from_null c.loop-t.to_null
      c.loop-t.ranges.items c.push.new.self.items c.in_ok-range_of.field-0 c.loop-t.invariant.0
      c.loop-t.invariant.1 c.loop-t.invariant.2 c.in_ok-range_of.ensures.range c.in_ok-push.ensures.items,
  keeps-trans c.args.from_null c.loop-t.from_null c.range_of.new.from_null c.loop-t.invariant.1
      c.range_of.ensures.from_walks,
  keeps-trans c.args.to_null c.loop-t.to_null c.range_of.new.to_null c.loop-t.invariant.2 c.range_of.ensures.to_walks,
)
