-- What shows the clause of `labels_make_equilibria` of `src/laws.rt`.
use Rattle.tn_counts.proofs.SurplusLemmas.{labels_equilibrium}
use Rattle.tn_counts.proofs.laws.labels_make_equilibria.Goals as goal

pub returns : goal.returns
returns c = labels_equilibrium
