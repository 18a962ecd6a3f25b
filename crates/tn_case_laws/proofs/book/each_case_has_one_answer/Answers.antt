-- What shows the clauses of `each_case_has_one_answer` of `src/book.rt`.
use Rattle.tn_case_laws.proofs.Cases.{each_case_has_one_answer}
use Rattle.tn_case_laws.proofs.book.each_case_has_one_answer.Goals as goal

pub returns : goal.returns
returns c = each_case_has_one_answer
