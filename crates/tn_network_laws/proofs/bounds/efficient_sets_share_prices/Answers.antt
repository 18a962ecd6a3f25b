-- What shows the clauses of `efficient_sets_share_prices` of `src/bounds.rt`.
use Rattle.tn_network_laws.proofs.WelfareLemmas.{efficient_sets_share_prices}
use Rattle.tn_network_laws.proofs.bounds.efficient_sets_share_prices.Goals as goal

pub returns : goal.returns
returns c = efficient_sets_share_prices
