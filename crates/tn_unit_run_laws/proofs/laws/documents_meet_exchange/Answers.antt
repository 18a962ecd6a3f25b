-- What shows the clause of `documents_meet_exchange` of `src/laws.rt`.
use Rattle.tn_unit_run_laws.proofs.ExchangeLemmas.{documents_exchange}
use Rattle.tn_unit_run_laws.proofs.laws.documents_meet_exchange.Goals as goal

pub returns : goal.returns
returns c = documents_exchange
