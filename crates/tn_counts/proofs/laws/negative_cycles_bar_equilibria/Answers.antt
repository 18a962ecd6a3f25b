-- What shows the clause of `negative_cycles_bar_equilibria` of `src/laws.rt`.
use Rattle.tn_counts.proofs.SurplusLemmas.{cycles_bar}
use Rattle.tn_counts.proofs.laws.negative_cycles_bar_equilibria.Goals as goal

pub returns : goal.returns
returns c = cycles_bar
