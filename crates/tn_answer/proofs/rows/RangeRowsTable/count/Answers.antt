-- What shows the clauses of `count` of the table of `range_rows` in `src/rows.rt`.
use Rattle.std.proofs.Common.{sym, ◌∙◌}
use Rattle.tn_answer.specs.Rows.{on_flags, range_row}
use Rattle.tn_answer.proofs.EachLemmas.{each-length}
use Rattle.tn_answer.proofs.rows.RangeRowsTable.count.Goals as goal

pub returns : goal.returns
returns c = λ names. each-length (range_row names (on_flags c.args.self.now.on.now) c.args.self.now.ends.now) 0
    c.args.self.now.ranges.now ∙ sym c.len.ensures
