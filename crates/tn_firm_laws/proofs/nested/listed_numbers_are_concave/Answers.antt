-- What shows the clauses of `listed_numbers_are_concave` of `src/nested.rt`.
use Rattle.tn_firm_laws.proofs.ConcaveLemmas.{concave-listed}
use Rattle.tn_firm_laws.proofs.nested.listed_numbers_are_concave.Goals as goal

pub returns : goal.returns
returns c = concave-listed
