-- What shows the clauses of `answers_are_one_line` of `src/lines.rt`.
use Rattle.tn_format_laws.proofs.LineLemmas.{answers_are_one_line}
use Rattle.tn_format_laws.proofs.lines.answers_are_one_line.Goals as goal

pub returns : goal.returns
returns c = answers_are_one_line
