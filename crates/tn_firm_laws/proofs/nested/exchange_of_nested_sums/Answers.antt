-- What shows the clauses of `exchange_of_nested_sums` of `src/nested.rt`.
use Rattle.tn_firm_laws.proofs.NestedLemmas.{meets-nested}
use Rattle.tn_firm_laws.proofs.nested.exchange_of_nested_sums.Goals as goal

pub returns : goal.returns
returns c = meets-nested
