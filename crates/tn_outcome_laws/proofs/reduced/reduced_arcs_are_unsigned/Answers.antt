-- What shows the clauses of `reduced_arcs_are_unsigned` of `src/reduced.rt`.
use Rattle.tn_outcome_laws.proofs.ArcLemmas.{reduced_arcs_are_unsigned}
use Rattle.tn_outcome_laws.proofs.reduced.reduced_arcs_are_unsigned.Goals as goal

pub returns : goal.returns
returns c = reduced_arcs_are_unsigned
