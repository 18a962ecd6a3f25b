-- What shows the clause of `markets_meet_exchange` of `src/laws.rt`.
use Rattle.tn_unit_laws.proofs.LaminarLemmas.{markets_exchange}
use Rattle.tn_unit_laws.proofs.laws.markets_meet_exchange.Goals as goal

pub returns : goal.returns
returns c = markets_exchange
