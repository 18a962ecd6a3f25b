-- What shows the clause of `completed_by_counts_are_stable` of `src/laws.rt`.
use Rattle.tn_unit_laws.proofs.BlockLemmas.{completed_are_stable}
use Rattle.tn_unit_laws.proofs.laws.completed_by_counts_are_stable.Goals as goal

pub returns : goal.returns
returns c = completed_are_stable
