-- What shows the clause of `blocked_by_counts` of `src/laws.rt`.
use Rattle.tn_unit_laws.proofs.BlockLemmas.{blocked_is_by_counts}
use Rattle.tn_unit_laws.proofs.laws.blocked_by_counts.Goals as goal

pub returns : goal.returns
returns c = blocked_is_by_counts
