-- What shows the clauses of `count` of the table of `deal_rows` in `src/rows.rt`.
use Rattle.std.proofs.Common.{sym, ◌∙◌}
use Rattle.tn_answer.specs.Cells.{on_text}
use Rattle.tn_answer.specs.Rows.{deal_row}
use Rattle.tn_answer.proofs.EachLemmas.{each-length}
use Rattle.tn_answer.proofs.rows.DealRowsTable.count.Goals as goal

pub returns : goal.returns
returns c = λ names. each-length (deal_row names (on_text c.args.self.now.on) c.args.self.now.ends.now) 0
    c.args.self.now.prices.now ∙ sym c.len.ensures
