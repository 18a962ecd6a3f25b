-- What shows the clauses of `none_on_is_no_cycle` of `src/laws.rt`.
use Rattle.tn_blocking_laws.proofs.CycleLemmas.{none_on_is_no_cycle}
use Rattle.tn_blocking_laws.proofs.laws.none_on_is_no_cycle.Goals as goal

pub returns : goal.returns
returns c = none_on_is_no_cycle
