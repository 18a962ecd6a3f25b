-- What shows the clause of `equilibria_by_counts_are_equilibria` of `src/laws.rt`.
use Rattle.tn_unit_laws.proofs.EquilibriumLemmas.{equilibria_are_equilibria}
use Rattle.tn_unit_laws.proofs.laws.equilibria_by_counts_are_equilibria.Goals as goal

pub returns : goal.returns
returns c = equilibria_are_equilibria
