-- What shows the clauses of `one_cycle_for_each_trade` of `src/rounds.rt`.
use Rattle.tn_network_laws.proofs.KeptLemmas.{one_cycle_for_each_trade}
use Rattle.tn_network_laws.proofs.rounds.one_cycle_for_each_trade.Goals as goal

pub returns : goal.returns
returns c = one_cycle_for_each_trade
