-- What shows the clauses of `one_cycle_bars_a_trade` of `src/rounds.rt`.
use Rattle.tn_network_laws.proofs.BarLemmas.{one_cycle_bars_a_trade}
use Rattle.tn_network_laws.proofs.rounds.one_cycle_bars_a_trade.Goals as goal

pub returns : goal.returns
returns c = one_cycle_bars_a_trade
