-- What shows the clause of `counts_are_of_sets` of `src/laws.rt`.
use Rattle.tn_unit_laws.proofs.EquilibriumLemmas.{counts_of_sets}
use Rattle.tn_unit_laws.proofs.laws.counts_are_of_sets.Goals as goal

pub returns : goal.returns
returns c = counts_of_sets
