-- What the loops of `table_text` of `src/tables.rt` keep.
use Rattle.std.proofs.Common.{◌∷◌, Some, map, take}
use Rattle.csv.specs.Writing.{fields_written, has_written, text_written, writer_setup}
use Rattle.tn_answer.specs.Cells.{cell_text}
use Rattle.tn_answer.specs.Rows.{IsBetweenRows, rows_text}
use Rattle.tn_answer.proofs.tables.table_text.Given as goal

abbrev pub invariant-loop-k : goal.invariant-loop-k
invariant-loop-k g l =
    IsBetweenRows (text_written (λ v. Some v.items) l.writer) (writer_setup l.writer) (fields_written l.writer)
    (has_written l.writer)
    (rows_text (map (cell_text l.names) l.head ∷ take l.k (g.T.Table.rows l.names l.table)))
