-- What shows the clause of `prices_are_least_walks` of `src/laws.rt`.
use Rattle.tn_counts.proofs.RangeLemmas.{prices_walks}
use Rattle.tn_counts.proofs.laws.prices_are_least_walks.Goals as goal

pub returns : goal.returns
returns c = prices_walks
