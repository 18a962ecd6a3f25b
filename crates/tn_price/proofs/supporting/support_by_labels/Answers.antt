-- What shows the clauses of `support_by_labels` of `src/supporting.rt`.
use Rattle.std.proofs.Common.{rules, map, length, List, ◌≡◌, ◌+◌, ◌≤◌, ◌∙◌, ℕ, ap, arith, sym, subst}
use Rattle.std.proofs.lemmas.Int.{to_z-of_z}
use mir.Syntax.{w128}
use mir.Val.{SFits}
use Rattle.tn_market.specs.Supported.{IsNegativeCycle, said_node}
use Rattle.tn_cycle.specs.Widths.{most_graph_nodes}
use Rattle.tn_market.specs.Widths.{most_market_trades}
use Rattle.tn_network_laws.proofs.EachLemmas.{meet_all}
use Rattle.tn_price.proofs.SupportLemmas.{exchange_labels, exchange_small, read, labels_support, priced_within, exchange_cycle, cycle_unsupported}
use Rattle.tn_price.proofs.supporting.support_by_labels.Goals as goal

few : (nodes trades : ℕ) → trades ≤ most_market_trades → nodes ≡ trades + 1 → nodes ≤ most_graph_nodes
few nodes trades most sized = omega (arith, most, sized)

pub prices_from-requires-clause-small : goal.prices_from-requires-clause-small
prices_from-requires-clause-small g c =
    exchange_small c.in_ok-finder.finder.nodes c.fill.new.self c.labels.new.self.labels
    (few c.in_ok-finder.finder.nodes c.trades-trades.result c.trades-trades.ensures.few (search rules))
    c.in-Feasible.ensures.answer.1

pub returns-in-Feasible-clause-answer : goal.returns-in-Feasible-clause-answer
returns-in-Feasible-clause-answer g c =
    let firms = map g.V.Valuation.firm c.args.market.now.firms in
    let trades = c.args.market.now.trades in
    labels_support firms trades c.args.on.now c.labels.new.self.labels c.in_ok-prices_from-in-Feasible.field-0
    c.trades-trades.ensures.network
    (meet_all g.V.Valuation.firm c.args.market.now.firms g.met.V.Valuation.lawful) c.requires.possible
    (exchange_labels firms trades c.args.on.now c.in_ok-finder.finder.nodes c.fill.new.self c.labels.new.self.labels
    c.fill.ensures.graph (search rules) c.in-Feasible.ensures.answer.1)
    (read c.trades-trades.result (length trades) c.labels.new.self.labels c.in_ok-prices_from-in-Feasible.field-0
    c.trades-trades.ensures.count c.in_ok-prices_from-in-Feasible.ensures.one_each
    c.in_ok-prices_from-in-Feasible.ensures.each)

pub returns-in-Feasible-clause-prices : goal.returns-in-Feasible-clause-prices
returns-in-Feasible-clause-prices g c =
    let firms = map g.V.Valuation.firm c.args.market.now.firms in
    let trades = c.args.market.now.trades in
    priced_within firms trades c.args.on.now c.labels.new.self.labels c.in_ok-prices_from-in-Feasible.field-0
    c.trades-trades.ensures.network
    (exchange_labels firms trades c.args.on.now c.in_ok-finder.finder.nodes c.fill.new.self c.labels.new.self.labels
    c.fill.ensures.graph (search rules) c.in-Feasible.ensures.answer.1)
    (read c.trades-trades.result (length trades) c.labels.new.self.labels c.in_ok-prices_from-in-Feasible.field-0
    c.trades-trades.ensures.count c.in_ok-prices_from-in-Feasible.ensures.one_each
    c.in_ok-prices_from-in-Feasible.ensures.each)

pub returns-clause-answer : goal.returns-clause-answer
returns-clause-answer g c =
    let firms = map g.V.Valuation.firm c.args.market.now.firms in
    let trades = c.args.market.now.trades in
    let network = c.trades-trades.ensures.network in
    let found = exchange_cycle firms trades c.args.on.now c.in_ok-finder.finder.nodes _ c.trades-trades.result
    c.fill.new.self c.labels.new.self.listed
    c.in_ok-said_nodes-in-Negative.field-0 c.in-Negative.cost c.fill.ensures.graph (search rules)
    c.trades-trades.ensures.count c.requires.possible c.in-Negative.ensures.answer.0
    (c.in_ok-said_nodes-in-Negative.ensures ∙ ap (λ (nodes : List ℕ). map (said_node c.trades-trades.result) nodes)
    c.listed.ensures) in
    let fits : SFits w128 c.in-Negative.cost = search rules in (
      subst (IsNegativeCycle firms trades c.args.on.now c.in_ok-said_nodes-in-Negative.field-0)
          (sym (to_z-of_z w128 c.in-Negative.cost fits)) found,
      cycle_unsupported firms trades c.args.on.now c.in_ok-said_nodes-in-Negative.field-0 c.in-Negative.cost network
          found,
    )
