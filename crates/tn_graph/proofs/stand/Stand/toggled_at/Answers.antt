-- What shows the clauses of `Stand::toggled_at` of `src/stand.rt`.
use Rattle.tn_graph.proofs.StandLemmas.{toggled_own}
use Rattle.tn_graph.proofs.stand.Stand.toggled_at.Goals as goal

pub returns-clause-own : goal.returns-clause-own
returns-clause-own g c = toggled_own _ _ _ _ _ _ _ _ _ c.requires.stand c.args.k _ c.toggled.ensures
