-- What shows the clause of `equilibria_by_counts_are_efficient` of `src/laws.rt`.
use Rattle.tn_counts.proofs.WelfareLemmas.{equilibria_efficient}
use Rattle.tn_counts.proofs.laws.equilibria_by_counts_are_efficient.Goals as goal

pub returns : goal.returns
returns c = equilibria_efficient
