-- What shows the clauses of `range` of `src/ranges.rt`.
use Rattle.std.proofs.Common.{◌≡◌, ℕ, ◌+◌, ◌∙◌, ℤ, List, rules, length, map, pos, sym, subst}
use Rattle.std.proofs.lemmas.Result.{IfOk-weaker}
use Rattle.tn_base.specs.Walks.{KeepsArcs}
use Rattle.tn_cycle.specs.Answers.{AreNear, label_in}
use Rattle.tn_cycle.specs.Widths.{most_label}
use Rattle.tn_graph.specs.Blocks.{arcs_of}
use Rattle.tn_model.specs.Prices.{price_at}
use Rattle.tn_network_laws.proofs.EachLemmas.{meet_all}
use Rattle.tn_network_laws.proofs.BoundLemmas.{equilibrium_possible}
use Rattle.tn_range.specs.Shown.{AreRangesBy}
use Rattle.tn_range.proofs.RangeLemmas.{found, prices_keep, prices_near, costs_small, all_ranges}
use Rattle.tn_range.proofs.ranges.range.Goals as goal

pub fill-requires : goal.fill-requires
fill-requires g c = (
  search rules,
  (
    c.requires.wide,
    (
      search rules,
      (
        equilibrium_possible (map g.V.Valuation.firm c.args.market.now.firms) c.args.market.now.trades (pos 1)
            c.args.on.now (price_at c.args.prices.now) c.requires.supported.equilibrium,
        c.requires.small,
      ),
    ),
  ),
)

pub least_from-requires-clause-near : goal.least_from-requires-clause-near
least_from-requires-clause-near g c = prices_near c.trades-trades.result most_label c.args.prices.now
    c.label_by_prices.new.finder.labels (c.requires.supported.one_each ∙ sym c.trades-trades.ensures.count)
    c.requires.near c.label_by_prices.ensures.prices

pub least_from-requires-clause-keeps : goal.least_from-requires-clause-keeps
least_from-requires-clause-keeps g c =
    prices_keep (map g.V.Valuation.firm c.args.market.now.firms) c.args.market.now.trades c.args.on.now
    c.trades-trades.result c.args.prices.now c.label_by_prices.new.finder.labels c.fill.new.self
    c.trades-trades.ensures.network c.requires.supported.equilibrium c.fill.ensures.graph c.trades-trades.ensures.count
    c.label_by_prices.ensures.prices

pub least_to-requires-clause-near : goal.least_to-requires-clause-near
least_to-requires-clause-near g c =
    subst (AreNear most_label) (sym c.label_as.ensures.labels)
    (prices_near c.trades-trades.result most_label c.args.prices.now c.label_by_prices.new.finder.labels
    (c.requires.supported.one_each ∙ sym c.trades-trades.ensures.count) c.requires.near
    c.label_by_prices.ensures.prices)

pub least_to-requires-clause-keeps : goal.least_to-requires-clause-keeps
least_to-requires-clause-keeps g c =
    subst (λ (labels : List ℤ). KeepsArcs (arcs_of c.fill.new.self) (label_in labels)) (sym c.label_as.ensures.labels)
    (prices_keep (map g.V.Valuation.firm c.args.market.now.firms) c.args.market.now.trades c.args.on.now
    c.trades-trades.result c.args.prices.now c.label_by_prices.new.finder.labels c.fill.new.self
    c.trades-trades.ensures.network c.requires.supported.equilibrium c.fill.ensures.graph c.trades-trades.ensures.count
    c.label_by_prices.ensures.prices)

pub ranges_from-requires-clause-small : goal.ranges_from-requires-clause-small
ranges_from-requires-clause-small g c =
    let made : c.in_ok-to_null.to_null.nodes ≡ c.trades-trades.result + 1 = search rules in
    costs_small c.fill.new.self c.label_as.new.self.nodes c.trades-trades.result c.trades-trades.result
    c.least_to.new.self (search rules) (c.label_as.ensures.rest.same_nodes ∙ made)
    c.trades-trades.ensures.few c.least_to.ensures.walks

pub returns-clause-ranges : goal.returns-clause-ranges
returns-clause-ranges g c =
    let firms = map g.V.Valuation.firm c.args.market.now.firms in
    let trades = c.args.market.now.trades in
    let from_made : c.in_ok-from_null.from_null.nodes ≡ length trades + 1 = search rules in
    let to_made : c.in_ok-to_null.to_null.nodes ≡ length trades + 1 = search rules in
    IfOk-weaker c.ranges_from.result _ _ (λ ranges are. all_ranges firms trades c.args.on.now
    (price_at c.args.prices.now) c.least_from.new.self c.least_to.new.self c.trades-trades.ensures.network
    (meet_all g.V.Valuation.firm c.args.market.now.firms g.met.V.Valuation.lawful) c.requires.supported.equilibrium
    (found firms trades c.args.on.now c.label_by_prices.new.finder.nodes c.label_as.new.self.nodes
    c.trades-trades.result c.fill.new.self c.least_from.new.self c.least_to.new.self c.fill.ensures.graph
    (c.label_by_prices.ensures.rest.same_nodes ∙ from_made) (c.label_as.ensures.rest.same_nodes ∙ to_made)
    c.trades-trades.ensures.count c.least_from.ensures.walks c.least_to.ensures.walks)
    ranges (subst (λ (n : ℕ). AreRangesBy n n c.least_from.new.self c.least_to.new.self ranges)
    c.trades-trades.ensures.count are)) c.ranges_from.ensures
