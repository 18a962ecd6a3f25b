-- What shows the clause of `completable_by_counts` of `src/laws.rt`.
use Rattle.tn_unit_laws.proofs.CompletionLemmas.{completable_is_by_counts}
use Rattle.tn_unit_laws.proofs.laws.completable_by_counts.Goals as goal

pub returns : goal.returns
returns c = completable_is_by_counts
