-- What shows the clauses of `cases` of `src/casing.rt`.
use Rattle.std.proofs.Common.{arith}
use Rattle.tn_run.proofs.CaseLemmas.{book_is_within}
use Rattle.tn_run.proofs.casing.cases.Goals as goal

pub run_cases-requires : goal.run_cases-requires
run_cases-requires c = (omega arith, rw c.book.ensures (omega arith, book_is_within))
