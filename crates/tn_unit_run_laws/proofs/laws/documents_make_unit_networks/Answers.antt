-- What shows the clause of `documents_make_unit_networks` of `src/laws.rt`.
use Rattle.tn_unit_run_laws.proofs.AnswerLemmas.{make_networks}
use Rattle.tn_unit_run_laws.proofs.laws.documents_make_unit_networks.Goals as goal

pub returns : goal.returns
returns c = make_networks
