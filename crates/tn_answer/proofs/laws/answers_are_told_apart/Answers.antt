-- What shows the clauses of `answers_are_told_apart` of `src/laws.rt`.
use Rattle.tn_answer.proofs.LayoutsApart.{answers_told_apart}
use Rattle.tn_answer.proofs.laws.answers_are_told_apart.Goals as goal

pub returns : goal.returns
returns c = answers_told_apart
