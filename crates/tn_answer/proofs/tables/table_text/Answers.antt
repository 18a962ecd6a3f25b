-- What shows the clauses of `table_text` of `src/tables.rt`.
use Rattle.std.proofs.Common.{◌≡◌, ◌∷◌, [], Some, map, sym, subst, arith, append-nil, take, get_or}
use Rattle.std.proofs.lemmas.Option.{slice_get-get_or}
use Rattle.std.specs.Prelude.{IfOk}
use Rattle.csv.specs.Writing.{default_writer, fields_written, has_written, row_text, text_written, writer_setup}
use Rattle.tn_answer.specs.Cells.{cell_text}
use Rattle.tn_answer.specs.Rows.{IsBetweenRows, rows_text}
use Rattle.tn_answer.proofs.RowLemmas.{rows-more, rows-whole}
use Rattle.tn_answer.proofs.tables.table_text.Goals as goal

pub loop-k-init : goal.loop-k-init
loop-k-init g c =
    let written = c.in_ok-writer.writer in
    subst (IsBetweenRows (text_written (λ v. Some v.items) written) (writer_setup written) (fields_written written)
    (has_written written))
    (sym (append-nil (row_text default_writer (map (cell_text c.args.names.now) c.args.head.now))))
    c.in_ok-writer.ensures

pub loop-k-preserved : goal.loop-k-preserved
loop-k-preserved g c =
    let written = c.write_at.new.writer in
    let head = map (cell_text c.args.names.now) c.args.head.now in
    let all = g.T.Table.rows c.args.names.now c.args.table.now in
    let counted = c.count-k-end.ensures c.args.names.now in
    let there = slice_get-get_or all c.loop-k.k [] (omega (arith, counted)) in
    subst (IsBetweenRows (text_written (λ v. Some v.items) written) (writer_setup written) (fields_written written)
    (has_written written))
    (rows-more head all c.loop-k.k (get_or all c.loop-k.k []) there)
    (c.in_ok-write_at.ensures (rows_text (head ∷ take c.loop-k.k all)) (get_or all c.loop-k.k []) there
    c.loop-k.invariant)

pub returns : goal.returns
returns g c =
    let head = map (cell_text c.args.names.now) c.args.head.now in
    let all = g.T.Table.rows c.args.names.now c.args.table.now in
    let counted = c.count-k-end.ensures c.args.names.now in
    subst (λ text. IfOk c.finish.result (λ written. written.items ≡ text))
    (rows-whole head all c.loop-k.k (omega (arith, counted)))
    (c.finish.ensures (rows_text (head ∷ take c.loop-k.k all)) c.loop-k.invariant)
