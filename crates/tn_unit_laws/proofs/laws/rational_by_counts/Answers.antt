-- What shows the clause of `rational_by_counts` of `src/laws.rt`.
use Rattle.tn_unit_laws.proofs.OutcomeLemmas.{rational_is_by_counts}
use Rattle.tn_unit_laws.proofs.laws.rational_by_counts.Goals as goal

pub returns : goal.returns
returns c = rational_is_by_counts
