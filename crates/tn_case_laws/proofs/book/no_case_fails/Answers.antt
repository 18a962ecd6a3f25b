-- What shows the clauses of `no_case_fails` of `src/book.rt`.
use Rattle.tn_case_laws.proofs.Passed.{no_case_fails}
use Rattle.tn_case_laws.proofs.book.no_case_fails.Goals as goal

pub returns : goal.returns
returns c = no_case_fails
