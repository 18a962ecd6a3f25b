-- What shows the clauses of `count` of the table of firms with units in `src/rows.rt`.
use Rattle.std.proofs.Common.{sym, ◌∙◌}
use Rattle.tn_answer.specs.Rows.{unit_firm_row}
use Rattle.tn_answer.proofs.EachLemmas.{each-length}
use Rattle.tn_answer.proofs.rows.UnitHoldingsTable.count.Goals as goal

pub returns : goal.returns
returns c = λ names. each-length (unit_firm_row names) 0 c.args.self.now ∙ sym c.len.ensures
