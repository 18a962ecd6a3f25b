-- What shows the clauses of `write_price` of `src/rows.rt`.
use Rattle.std.proofs.Common.{◌≡◌, ℕ, List, ◌∷◌, [], ◌++◌, Some, subst, to_z, of_z}
use Rattle.std.specs.Prelude.{OnOk}
use Rattle.std.specs.Fmt.{signed_decimal}
use Rattle.std.proofs.lemmas.Int.{to_z-of_z}
use mir.Syntax.{w128}
use Rattle.csv.specs.Writing.{default_writer, fields_written, has_written, row_text, text_written, writer_setup}
use Rattle.tn_answer.specs.Cells.{cell_text, on_text}
use Rattle.tn_answer.specs.Rows.{IsBetweenRows, price_row}
use Rattle.tn_answer.proofs.rows.write_price.Goals as goal

pub returns : goal.returns
returns c = λ text before.
    let written = c.write_row.new.writer in
    let same : c.name_at.result.now ∷ cell_text c.args.names.now c.on_cell.result ∷ signed_decimal (to_z w128 (of_z w128 c.args.price))
    ∷ [] ≡ price_row c.args.names.now (on_text c.args.on) c.args.k c.args.price =
    λ j. c.name_at.ensures j ∷ c.on_cell.ensures.text c.args.names.now j ∷ signed_decimal
    (to_z-of_z w128 c.args.price c.ranges.price j) ∷ [] in
    subst (λ (row : List (List ℕ)). OnOk c.write_row.result
    (IsBetweenRows (text_written (λ v. Some v.items) written) (writer_setup written) (fields_written written)
    (has_written written) (text ++ row_text default_writer row)))
    same (c.write_row.ensures text before)
