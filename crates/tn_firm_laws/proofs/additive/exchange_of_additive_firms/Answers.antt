-- What shows the clauses of `exchange_of_additive_firms` of `src/additive.rt`.
use Rattle.tn_firm_laws.proofs.AdditiveLemmas.{meets-additive}
use Rattle.tn_firm_laws.proofs.additive.exchange_of_additive_firms.Goals as goal

pub returns : goal.returns
returns c = meets-additive
