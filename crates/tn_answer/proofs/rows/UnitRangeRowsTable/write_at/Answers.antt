-- What shows the clauses of `write_at` of the table of ranges with units in `src/rows.rt`.
use Rattle.std.proofs.Common.{arith}
use Rattle.tn_answer.specs.Rows.{on_units, unit_range_row}
use Rattle.tn_answer.specs.Sayable.{HasShortUnitBounds}
use Rattle.tn_answer.proofs.EachLemmas.{each-is, each-length}
use Rattle.tn_answer.proofs.FitLemmas.{all-there}
use Rattle.tn_answer.proofs.rows.UnitRangeRowsTable.write_at.Goals as goal

pub at-range-requires : goal.at-range-requires
at-range-requires c =
    let counted = each-length (unit_range_row c.args.names.now (on_units c.args.self.now.counts.now) c.args.self.now.ends.now) 0
    c.args.self.now.ranges.now in
    omega (arith, counted)

pub write_bounds-requires-clause-high : goal.write_bounds-requires-clause-high
write_bounds-requires-clause-high c =
    (all-there HasShortUnitBounds c.args.self.now.ranges.now c.args.k c.at-range.result.now c.requires.short c.at-range.ensures).high

pub write_bounds-requires-clause-low : goal.write_bounds-requires-clause-low
write_bounds-requires-clause-low c =
    (all-there HasShortUnitBounds c.args.self.now.ranges.now c.args.k c.at-range.result.now c.requires.short c.at-range.ensures).low

pub returns : goal.returns
returns c = λ text row there before.
    let same = each-is (unit_range_row c.args.names.now (on_units c.args.self.now.counts.now) c.args.self.now.ends.now)
    c.args.self.now.ranges.now c.args.k c.at-range.result.now row c.at-range.ensures there in
    rw (← same) (c.write_bounds.ensures text before)
