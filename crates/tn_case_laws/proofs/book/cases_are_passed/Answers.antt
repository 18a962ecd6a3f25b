-- What shows the clauses of `cases_are_passed` of `src/book.rt`.
use Rattle.tn_case_laws.proofs.Passed.{cases_are_passed}
use Rattle.tn_case_laws.proofs.book.cases_are_passed.Goals as goal

pub returns : goal.returns
returns c = cases_are_passed
