-- What shows the clause of `completed_by_counts` of `src/laws.rt`.
use Rattle.tn_unit_laws.proofs.OutcomeLemmas.{completed_is_by_counts}
use Rattle.tn_unit_laws.proofs.laws.completed_by_counts.Goals as goal

pub returns : goal.returns
returns c = completed_is_by_counts
