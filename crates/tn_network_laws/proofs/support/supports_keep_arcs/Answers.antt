-- What shows the clauses of `supports_keep_arcs` of `src/support.rt`.
use Rattle.tn_network_laws.proofs.SupportLemmas.{supports_keep_arcs}
use Rattle.tn_network_laws.proofs.support.supports_keep_arcs.Goals as goal

pub returns : goal.returns
returns c = supports_keep_arcs
