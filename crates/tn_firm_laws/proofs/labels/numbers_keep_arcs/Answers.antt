-- What shows the clauses of `numbers_keep_arcs` of `src/labels.rt`.
use Rattle.tn_firm_laws.proofs.LabelLemmas.{numbers_keep_arcs}
use Rattle.tn_firm_laws.proofs.labels.numbers_keep_arcs.Goals as goal

pub returns : goal.returns
returns c = numbers_keep_arcs
