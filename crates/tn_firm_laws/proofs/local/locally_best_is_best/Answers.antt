-- What shows the clauses of `locally_best_is_best` of `src/local.rt`.
use Rattle.tn_firm_laws.proofs.LocalLemmas.{local_to_global}
use Rattle.tn_firm_laws.proofs.local.locally_best_is_best.Goals as goal

pub returns : goal.returns
returns c = local_to_global
