-- What shows the clause of `cycles_gain_by_counts` of `src/laws.rt`.
use Rattle.tn_counts.proofs.SurplusLemmas.{cycles_more}
use Rattle.tn_counts.proofs.laws.cycles_gain_by_counts.Goals as goal

pub returns : goal.returns
returns c = cycles_more
