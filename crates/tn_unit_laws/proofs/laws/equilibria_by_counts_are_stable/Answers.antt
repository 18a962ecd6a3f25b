-- What shows the clause of `equilibria_by_counts_are_stable` of `src/laws.rt`.
use Rattle.tn_unit_laws.proofs.StableLemmas.{equilibria_stable}
use Rattle.tn_unit_laws.proofs.laws.equilibria_by_counts_are_stable.Goals as goal

pub returns : goal.returns
returns c = equilibria_stable
