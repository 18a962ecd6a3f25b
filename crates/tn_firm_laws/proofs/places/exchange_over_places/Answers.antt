-- What shows the clauses of `exchange_over_places` of `src/places.rt`.
use Rattle.tn_firm_laws.proofs.ExchangeLemmas.{exchange_to_places, exchange_from_places}
use Rattle.tn_firm_laws.proofs.places.exchange_over_places.Goals as goal

pub returns : goal.returns
returns c = λ firm own. (exchange_to_places firm own, exchange_from_places firm own)
