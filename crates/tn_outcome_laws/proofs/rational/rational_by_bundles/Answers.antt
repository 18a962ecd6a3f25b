-- What shows the clauses of `rational_by_bundles` of `src/rational.rt`.
use Rattle.tn_outcome_laws.proofs.RationalLemmas.{rational_by_bundles}
use Rattle.tn_outcome_laws.proofs.rational.rational_by_bundles.Goals as goal

pub returns : goal.returns
returns c = rational_by_bundles
