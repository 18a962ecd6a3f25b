-- What shows the clauses of `some_on_is_cycle` of `src/laws.rt`.
use Rattle.tn_blocking_laws.proofs.TaxLemmas.{some_on_is_cycle}
use Rattle.tn_blocking_laws.proofs.laws.some_on_is_cycle.Goals as goal

pub returns : goal.returns
returns c = some_on_is_cycle
