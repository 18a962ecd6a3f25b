-- What shows the clauses of `count` of the table of `price_rows` in `src/rows.rt`.
use Rattle.std.proofs.Common.{sym, ◌∙◌}
use Rattle.tn_answer.specs.Cells.{on_text}
use Rattle.tn_answer.specs.Rows.{price_row}
use Rattle.tn_answer.proofs.EachLemmas.{each-length}
use Rattle.tn_answer.proofs.rows.PriceRowsTable.count.Goals as goal

pub returns : goal.returns
returns c = λ names. each-length (price_row names (on_text c.args.self.now.on)) 0 c.args.self.now.prices.now ∙ sym
    c.len.ensures
