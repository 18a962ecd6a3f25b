-- What shows the clauses of `ends_of` of `src/graph.rt`.
use Rattle.std.proofs.Common.{arith, sym, length, ◌≤◌}
use Rattle.std.proofs.lemmas.Option.{slice_get_past}
use Rattle.tn_base.specs.Firm.{Firm}
use Rattle.tn_network_laws.proofs.EachLemmas.{each_firm}
use Rattle.tn_chain.proofs.graph.ends_of.Goals as goal

pub returns-then-node-trades-clause-positions : goal.returns-then-node-trades-clause-positions
returns-then-node-trades-clause-positions g c =
    let network = c.trades.ensures.network in
    let sold = network.sold c.args.node c.ends.result c.ends.ensures in
    let bought = network.bought c.args.node c.ends.result c.ends.ensures in
    let sells = each_firm g.V.Valuation.firm (λ (z : Firm). z.count ≤ 64) c.args.market.now.firms
    (λ v. (g.met.V.Valuation.lawful v).few_trades) c.ends.result.seller sold.0 sold.1 in
    let buys = each_firm g.V.Valuation.firm (λ (z : Firm). z.count ≤ 64) c.args.market.now.firms
    (λ v. (g.met.V.Valuation.lawful v).few_trades) c.ends.result.buyer bought.0 bought.1 in
    let at_seller = sold.2 in
    let at_buyer = bought.2 in
    (omega (arith, sells, at_seller), omega (arith, buys, at_buyer))

pub returns-else-node-trades-clause-ends : goal.returns-else-node-trades-clause-ends
returns-else-node-trades-clause-ends g c =
    let test = c.if-node-trades.false in
    let count = c.trades.ensures.count in
    let past : length c.args.market.now.trades ≤ c.args.node = omega (arith, test, count) in
    sym (slice_get_past c.args.market.now.trades c.args.node past)
