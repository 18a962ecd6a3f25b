-- What shows the clauses of `exchange_among` of `src/kept.rt`.
use Rattle.tn_firm_laws.proofs.KeepLemmas.{meets-among}
use Rattle.tn_firm_laws.proofs.kept.exchange_among.Goals as goal

pub returns : goal.returns
returns c = meets-among
