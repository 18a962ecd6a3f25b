-- What shows the clauses of `search_in_room` of `src/chain.rt`.
use Rattle.std.proofs.Common.{map}
use Rattle.tn_chain.proofs.ChainLemmas.{first_cycle, rational_outcome}
use Rattle.tn_chain.proofs.chain.search_in_room.Goals as goal

pub search-requires-clause-rational : goal.search-requires-clause-rational
search-requires-clause-rational g c =
    rational_outcome g.V.Valuation.firm c.args.market.now.firms c.args.market.now.trades c.args.outcome.now.over
    c.args.outcome.now.contracts c.trades.ensures.network
    g.met.V.Valuation.lawful c.requires.outcome c.requires.rational

pub search-requires-clause-broken : goal.search-requires-clause-broken
search-requires-clause-broken g c =
    first_cycle (map g.V.Valuation.firm c.args.market.now.firms) c.args.market.now.trades c.args.outcome.now.over
    c.args.outcome.now.contracts
    (rational_outcome g.V.Valuation.firm c.args.market.now.firms c.args.market.now.trades c.args.outcome.now.over
    c.args.outcome.now.contracts c.trades.ensures.network
    g.met.V.Valuation.lawful c.requires.outcome c.requires.rational) c.requires.incomplete
