-- What shows the clauses of `up` of `src/exchange.rt`.
use Rattle.tn_base.specs.Firm.{up}
use Rattle.tn_exchange.proofs.exchange.up.Goals as goal

pub returns : goal.returns
unfolding up
returns c = cc
