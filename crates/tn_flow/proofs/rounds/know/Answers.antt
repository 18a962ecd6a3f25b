-- What shows the clauses of `know` of `src/rounds.rt`.
use Rattle.tn_flow.proofs.RoundLemmas.{kept_start}
use Rattle.tn_network_laws.proofs.EachLemmas.{meet_all}
use Rattle.tn_flow.proofs.rounds.know.Goals as goal

pub returns-clause-meet : goal.returns-clause-meet
returns-clause-meet g c = meet_all g.V.Valuation.firm c.args.market.now.firms g.met.V.Valuation.lawful

pub returns-clause-start : goal.returns-clause-start
returns-clause-start g c =
    kept_start g.V.Valuation.firm c.args.market.now.firms c.args.market.now.trades c.trades-trades.ensures.network
    (λ v. (g.met.V.Valuation.lawful v).empty_is_possible)
