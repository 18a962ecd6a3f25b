-- What shows the clauses of `write_bounds` of `src/rows.rt`.
use Rattle.std.proofs.Common.{◌≡◌, ℕ, List, ◌∷◌, [], ◌++◌, Some, subst}
use Rattle.std.specs.Prelude.{OnOk}
use Rattle.csv.specs.Writing.{default_writer, fields_written, has_written, row_text, text_written, writer_setup}
use Rattle.tn_answer.specs.Cells.{cell_text, on_text}
use Rattle.tn_answer.specs.Rows.{IsBetweenRows, bound_text, bounds_row}
use Rattle.tn_answer.proofs.rows.write_bounds.Goals as goal

pub returns : goal.returns
returns c = λ text before.
    let written = c.write_row.new.writer in
    let bounds = c.args.bounds in
    let same : c.name_at.result.now ∷ c.seller_at.result.now ∷ c.buyer_at.result.now ∷ cell_text c.args.names.now c.on_cell.result ∷
    bound_text bounds.low ∷ bound_text bounds.high ∷ []
    ≡ bounds_row c.args.names.now (on_text c.args.on) c.args.ends.now c.args.k bounds.low bounds.high =
    λ j. c.name_at.ensures j ∷ c.seller_at.ensures j ∷ c.buyer_at.ensures j ∷ c.on_cell.ensures.text c.args.names.now j ∷
    bound_text bounds.low ∷ bound_text bounds.high ∷ [] in
    subst (λ (row : List (List ℕ)). OnOk c.write_row.result
    (IsBetweenRows (text_written (λ v. Some v.items) written) (writer_setup written) (fields_written written)
    (has_written written) (text ++ row_text default_writer row)))
    same (c.write_row.ensures text before)
