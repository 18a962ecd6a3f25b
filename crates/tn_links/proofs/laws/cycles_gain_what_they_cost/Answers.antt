-- What shows the clause of `cycles_gain_what_they_cost` of `src/laws.rt`.
use Rattle.tn_links.proofs.RoundLemmas.{cycles_gain}
use Rattle.tn_links.proofs.laws.cycles_gain_what_they_cost.Goals as goal

pub returns : goal.returns
returns c = cycles_gain
