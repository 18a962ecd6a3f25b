-- What shows the clauses of `null_is_net_count` of `src/places.rt`.
use Rattle.tn_firm_laws.proofs.ExchangeLemmas.{null_is_net_count}
use Rattle.tn_firm_laws.proofs.places.null_is_net_count.Goals as goal

pub returns : goal.returns
returns c = null_is_net_count
