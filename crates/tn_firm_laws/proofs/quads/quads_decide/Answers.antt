-- What shows the clauses of `quads_decide` of `src/quads.rt`.
use Rattle.tn_firm_laws.proofs.QuadLemmas.{quads_decide}
use Rattle.tn_firm_laws.proofs.quads.quads_decide.Goals as goal

pub returns : goal.returns
returns c = quads_decide
