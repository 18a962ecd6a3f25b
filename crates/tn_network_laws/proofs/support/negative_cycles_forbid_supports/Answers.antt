-- What shows the clauses of `negative_cycles_forbid_supports` of `src/support.rt`.
use Rattle.tn_network_laws.proofs.SupportLemmas.{negative_cycles}
use Rattle.tn_network_laws.proofs.support.negative_cycles_forbid_supports.Goals as goal

pub returns : goal.returns
returns c = negative_cycles
