-- What shows the clauses of `numbers_leave_no_more` of `src/reduced.rt`.
use Rattle.tn_outcome_laws.proofs.NoMoreLemmas.{numbers_leave_no_more}
use Rattle.tn_outcome_laws.proofs.reduced.numbers_leave_no_more.Goals as goal

pub returns : goal.returns
returns c = numbers_leave_no_more
