-- What shows the clauses of `local_is_global` of `src/local.rt`.
use Rattle.tn_firm_laws.proofs.LocalLemmas.{local_is_global}
use Rattle.tn_firm_laws.proofs.local.local_is_global.Goals as goal

pub returns : goal.returns
returns c = local_is_global
