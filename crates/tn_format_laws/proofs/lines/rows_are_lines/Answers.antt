-- What shows the clauses of `rows_are_lines` of `src/lines.rt`.
use Rattle.tn_format_laws.proofs.RowLemmas.{rows_are_lines}
use Rattle.tn_format_laws.proofs.lines.rows_are_lines.Goals as goal

pub returns : goal.returns
returns c = rows_are_lines
