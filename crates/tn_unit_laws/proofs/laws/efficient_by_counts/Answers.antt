-- What shows the clause of `efficient_by_counts` of `src/laws.rt`.
use Rattle.tn_unit_laws.proofs.EquilibriumLemmas.{efficient_is_by_counts}
use Rattle.tn_unit_laws.proofs.laws.efficient_by_counts.Goals as goal

pub returns : goal.returns
returns c = efficient_is_by_counts
