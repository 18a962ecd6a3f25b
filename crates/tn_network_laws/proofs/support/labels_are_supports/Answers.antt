-- What shows the clauses of `labels_are_supports` of `src/support.rt`.
use Rattle.tn_network_laws.proofs.SupportLemmas.{labels_are_supports}
use Rattle.tn_network_laws.proofs.support.labels_are_supports.Goals as goal

pub returns : goal.returns
returns c = labels_are_supports
