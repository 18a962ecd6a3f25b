-- What shows the clause of `stable_by_counts` of `src/laws.rt`.
use Rattle.tn_unit_laws.proofs.BlockedLemmas.{stable_is_by_counts}
use Rattle.tn_unit_laws.proofs.laws.stable_by_counts.Goals as goal

pub returns : goal.returns
returns c = stable_is_by_counts
