-- What shows the clauses of `TradeSet::empty` of `src/trade_set.rt`.
use Rattle.tn_base.proofs.LimbLemmas.{joined-zeros}
use Rattle.tn_base.proofs.trade_set.TradeSet.empty.Goals as goal

pub returns : goal.returns
returns g c = joined-zeros g.row.W
