-- What shows the clauses of `begin` of `src/cells.rt`.
use Rattle.std.proofs.Common.{[], ◌++◌, Some, ap, ap₂, ◌∙◌}
use Rattle.csv.specs.Writing.{fields_written, has_written, text_written, writer_setup}
use Rattle.tn_answer.specs.Rows.{IsBetweenRows}
use Rattle.tn_answer.proofs.cells.begin.Goals as goal

pub returns : goal.returns
returns c =
    let from = c.from_writer-writer.ensures in
    let writer = c.from_writer-writer.result in
    let start : IsBetweenRows (text_written (λ v. Some v.items) writer) (writer_setup writer) (fields_written writer)
    (has_written writer) [] = record {
      text_is = ap₂ (λ v b. Some (v.items ++ b)) from.wtr from.empty ∙ ap (λ l. Some (l ++ [])) c.new.ensures.items;
      default = from.cfg;
      no_field = from.fields;
      none_wrote = from.wrote;
    } in
    c.in_ok-write_row.ensures [] start
