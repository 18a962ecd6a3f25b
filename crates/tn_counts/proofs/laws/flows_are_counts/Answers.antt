-- What shows the clause of `flows_are_counts` of `src/laws.rt`.
use Rattle.tn_counts.proofs.SurplusLemmas.{flows_counts}
use Rattle.tn_counts.proofs.laws.flows_are_counts.Goals as goal

pub returns : goal.returns
returns c = flows_counts
