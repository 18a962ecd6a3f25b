-- What shows the clauses of `reduced_worths_are_greatest` of `src/reduced.rt`.
use Rattle.tn_outcome_laws.proofs.ReducedLemmas.{reduced_worths_are_greatest}
use Rattle.tn_outcome_laws.proofs.reduced.reduced_worths_are_greatest.Goals as goal

pub returns : goal.returns
returns c = reduced_worths_are_greatest
