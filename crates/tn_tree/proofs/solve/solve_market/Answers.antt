-- What shows the clauses of `solve_market` of `src/solve.rt`.
use Rattle.std.proofs.Common.{ℕ, ◌+◌, List, length, map, get_or, refl, sym, ap, subst, ◌∙◌, arith, ◌+ℤ◌}
use Rattle.std.specs.Prelude.{slice_get}
use Rattle.std.specs.List.{range_with_len}
use Rattle.std.proofs.lemmas.Int.{ints, to_z-of_z}
use mir.Syntax.{w128}
use mir.Val.{SFits}
use Rattle.tn_links.specs.Flows.{IsKeptFlow, total_gain}
use Rattle.tn_counts.specs.Laminar.{constants}
use Rattle.tn_counts.specs.Tree.{price_by}
use Rattle.tn_cycle.specs.Answers.{label_in}
use Rattle.tn_counts.proofs.SizeLemmas.{market_gain_small}
use Rattle.tn_tree.proofs.SolveLemmas.{equilibrium_read, labels_small, prices_small, sized_by, surplus_read, surplus_small}
use Rattle.tn_tree.proofs.solve.solve_market.Goals as goal

pub gain-requires : goal.gain-requires
gain-requires c =
    subst (IsKeptFlow c.in_ok-links.links.links.items) (sym c.deref.ensures.value) c.in_ok-levels.ensures.kept

pub constants-requires-clause-small : goal.constants-requires-clause-small
constants-requires-clause-small c = λ i set at.
    (c.requires.each i set (sym (ap (λ xs. slice_get xs i) c.deref-2.ensures.value) ∙ at)).constant

pub prices_by-requires-clause-small : goal.prices_by-requires-clause-small
prices_by-requires-clause-small c =
    let sized = c.args.market.now.trades.ok.0 in
    let count = c.len-trades.ensures in
    let node = c.trade_node-nodes.ensures in
    labels_small c.in_ok-links.links.nodes (c.trade_node-nodes.result + 1) c.in_ok-links.links.links.items
    c.in_ok-levels.levels.items c.settled.new.finder.labels c.in_ok-links.links.plain
    (omega (arith, sized, count, node, c.requires.few_firms, c.requires.few_trades, c.requires.few_sets))
    c.in_ok-levels.ensures.labelled

pub returns-clause-equilibrium : goal.returns-clause-equilibrium
returns-clause-equilibrium c =
    let sized = c.args.market.now.trades.ok.0 in
    let count = c.len-trades.ensures in
    equilibrium_read c.args.market.now c.in_ok-links.links.links.items c.in_ok-levels.levels.items
    c.settled.new.finder.labels (c.trade_node-nodes.result + 1) c.in_ok-counts.counts.items c.in_ok-prices.prices.items
    c.len-trades.result c.trade_node.result c.requires c.in_ok-links.ensures.links c.in_ok-levels.ensures.kept
    c.in_ok-levels.ensures.labelled (omega (arith, sized, count)) c.trade_node.ensures
    (c.in_ok-counts.ensures ∙ ap (λ (ls : List ℕ). map (λ t. get_or ls (c.trade_node.result + t) 0)
    (range_with_len 0 c.len-trades.result)) c.deref-3.ensures.value) c.in_ok-prices.ensures

pub returns-clause-surplus : goal.returns-clause-surplus
returns-clause-surplus c =
    let sized = c.args.market.now.trades.ok.0 in
    let count = c.len-trades.ensures in
    let gain = c.gain.ensures in
    let added = c.constants.ensures in
    let fit_gain : SFits w128 c.gain.result = omega (arith, ints, gain.small.low, gain.small.high) in
    let fit_constants : SFits w128 c.constants.result = omega (arith, ints, added.small.low, added.small.high) in
    let fit : SFits w128 (c.gain.result +ℤ c.constants.result) =
    omega (arith, ints, gain.small.low, gain.small.high, added.small.low, added.small.high) in
    let gains = ap (total_gain c.in_ok-links.links.links.items) c.deref.ensures.value in
    let numbers = ap constants c.deref-2.ensures.value in
    simp to_z-of_z (surplus_read c.args.market.now c.in_ok-links.links.links.items c.in_ok-levels.levels.items
    c.in_ok-counts.counts.items c.len-trades.result c.trade_node.result (c.gain.result +ℤ c.constants.result) c.requires
    c.in_ok-links.ensures.links c.in_ok-levels.ensures.kept (omega (arith, sized, count)) c.trade_node.ensures
    (c.in_ok-counts.ensures ∙ ap (λ (ls : List ℕ). map (λ t. get_or ls (c.trade_node.result + t) 0)
    (range_with_len 0 c.len-trades.result)) c.deref-3.ensures.value)
    (omega (arith, ints, gain.gain, added.sum, gains, numbers)))

pub returns-clause-counts : goal.returns-clause-counts
returns-clause-counts c =
    let sized = c.args.market.now.trades.ok.0 in
    let count = c.len-trades.ensures in
    sized_by (λ t. get_or c.deref-3.result.now (c.trade_node.result + t) 0) c.in_ok-counts.counts.items
    c.len-trades.result (length c.args.market.now.trades.items) c.in_ok-counts.ensures (omega (arith, sized, count))

pub returns-clause-prices : goal.returns-clause-prices
returns-clause-prices c =
    sized_by (price_by c.args.market.now (label_in c.settled.new.finder.labels)) c.in_ok-prices.prices.items
    (length c.args.market.now.trades.items) (length c.args.market.now.trades.items) c.in_ok-prices.ensures refl

pub returns-clause-small_prices : goal.returns-clause-small_prices
returns-clause-small_prices c =
    let sized = c.args.market.now.trades.ok.0 in
    let count = c.len-trades.ensures in
    let node = c.trade_node-nodes.ensures in
    prices_small c.args.market.now c.in_ok-links.links.links.items c.in_ok-levels.levels.items
    c.settled.new.finder.labels (c.trade_node-nodes.result + 1) c.in_ok-prices.prices.items c.requires
    c.in_ok-links.ensures.links c.in_ok-levels.ensures.labelled (omega (arith, sized, count, node)) c.in_ok-prices.ensures

pub returns-clause-small_surplus : goal.returns-clause-small_surplus
returns-clause-small_surplus c =
    let gain = c.gain.ensures in
    let added = c.constants.ensures in
    let gains = ap (total_gain c.in_ok-links.links.links.items) c.deref.ensures.value in
    let fit_gain : SFits w128 c.gain.result = omega (arith, ints, gain.small.low, gain.small.high) in
    let fit_constants : SFits w128 c.constants.result = omega (arith, ints, added.small.low, added.small.high) in
    let fit : SFits w128 (c.gain.result +ℤ c.constants.result) =
    omega (arith, ints, gain.small.low, gain.small.high, added.small.low, added.small.high) in
    let small = market_gain_small c.args.market.now c.in_ok-links.links.links.items c.in_ok-levels.levels.items c.requires
    c.in_ok-links.ensures.links c.in_ok-levels.ensures.kept in
    simp to_z-of_z (surplus_small (c.gain.result +ℤ c.constants.result) c.gain.result c.constants.result (record {
      low = omega (arith, ints, small.low, gains, gain.gain);
      high = omega (arith, ints, small.high, gains, gain.gain);
    }) added.small refl)
