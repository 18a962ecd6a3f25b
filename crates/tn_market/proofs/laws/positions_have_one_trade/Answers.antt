-- What shows the clauses of `positions_have_one_trade` of `src/laws.rt`.
use Rattle.tn_model.proofs.NetworkLemmas.{one_trade, member_of_part}
use Rattle.tn_market.proofs.laws.positions_have_one_trade.Goals as goal

pub returns : goal.returns
returns c = record { one = one_trade; bundled = member_of_part }
