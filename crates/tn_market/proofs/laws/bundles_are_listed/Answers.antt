-- What shows the clauses of `bundles_are_listed` of `src/laws.rt`.
use Rattle.tn_model.proofs.NetworkLemmas.{listed_trades, ascending_trades}
use Rattle.tn_market.proofs.laws.bundles_are_listed.Goals as goal

pub returns : goal.returns
returns c = record { whole = listed_trades; ascending = ascending_trades }
