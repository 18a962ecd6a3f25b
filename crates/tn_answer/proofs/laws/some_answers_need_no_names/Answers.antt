-- What shows the clauses of `some_answers_need_no_names` of `src/laws.rt`.
use Rattle.tn_answer.proofs.LawLemmas.{same_line}
use Rattle.tn_answer.proofs.laws.some_answers_need_no_names.Goals as goal

pub returns : goal.returns
returns c = same_line
