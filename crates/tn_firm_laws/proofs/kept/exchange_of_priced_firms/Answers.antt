-- What shows the clauses of `exchange_of_priced_firms` of `src/kept.rt`.
use Rattle.tn_firm_laws.proofs.KeepLemmas.{meets-plus_sum}
use Rattle.tn_firm_laws.proofs.kept.exchange_of_priced_firms.Goals as goal

pub returns : goal.returns
returns c = meets-plus_sum
