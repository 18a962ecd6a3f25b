-- What shows the clauses of `count` of the table of ranges with units in `src/rows.rt`.
use Rattle.std.proofs.Common.{sym, ◌∙◌}
use Rattle.tn_answer.specs.Rows.{on_units, unit_range_row}
use Rattle.tn_answer.proofs.EachLemmas.{each-length}
use Rattle.tn_answer.proofs.rows.UnitRangeRowsTable.count.Goals as goal

pub returns : goal.returns
returns c = λ names. each-length (unit_range_row names (on_units c.args.self.now.counts.now) c.args.self.now.ends.now) 0
    c.args.self.now.ranges.now ∙ sym c.len.ensures
