-- What shows the clauses of `range_market` of `src/range.rt`.
use Rattle.std.proofs.Common.{◌≡◌, ℕ, ◌+◌, List, get_or, map, refl, ap, ◌∙◌, subst, arith}
use Rattle.std.specs.List.{range_with_len}
use Rattle.tn_counts.specs.Tree.{trade_node}
use Rattle.tn_cycle.specs.Answers.{label_in}
use Rattle.tn_tree.specs.Ranges.{AreWalks}
use Rattle.tn_tree.proofs.RangeLemmas.{found_by, labels_lent, ranges_are, ranges_small, walks_read}
use Rattle.tn_tree.proofs.range.range_market.Goals as goal

pub walks_from-requires-clause-labelled : goal.walks_from-requires-clause-labelled
walks_from-requires-clause-labelled c =
    let sized = c.args.market.now.trades.ok.0 in
    let count = c.len-trades.ensures in
    let node = c.trade_node-null.ensures in
    let nodes = c.in_ok-links.ensures.nodes in
    labels_lent c.in_ok-links.links.links.items c.in_ok-levels.levels.items c.deref.result.now
    c.settled.new.finder.labels c.settled.new.finder.labels c.in_ok-links.links.nodes (c.trade_node-null.result + 1)
    c.in_ok-levels.ensures.labelled (omega (arith, sized, count, node, nodes)) c.deref.ensures.value refl

pub walks_to-requires-clause-labelled : goal.walks_to-requires-clause-labelled
walks_to-requires-clause-labelled c =
    let sized = c.args.market.now.trades.ok.0 in
    let count = c.len-trades.ensures in
    let node = c.trade_node-null.ensures in
    let nodes = c.in_ok-links.ensures.nodes in
    labels_lent c.in_ok-links.links.links.items c.in_ok-levels.levels.items c.deref-2.result.now
    c.settled.new.finder.labels c.label_as.new.self.labels c.in_ok-links.links.nodes (c.trade_node-null.result + 1)
    c.in_ok-levels.ensures.labelled (omega (arith, sized, count, node, nodes)) c.deref-2.ensures.value
    c.label_as.ensures.labels

pub ranges_from-requires-clause-walks : goal.ranges_from-requires-clause-walks
ranges_from-requires-clause-walks c = λ t below.
    let sized = c.args.market.now.trades.ok.0 in
    let count = c.len-trades.ensures in
    let node = c.trade_node-null.ensures in
    let first = c.trade_node-place.ensures in
    let place : trade_node c.args.market.now t ≡ c.trade_node-place.result + t = omega (arith, first) in
    subst (λ (v : ℕ). AreWalks c.args.market.now c.walks_from.new.finder c.walks_to.new.finder v) place
    (walks_read c.args.market.now c.in_ok-links.links.links.items c.in_ok-levels.levels.items
    (label_in c.settled.new.finder.labels) c.walks_from.new.finder c.walks_to.new.finder
    (found_by c.args.market.now c.in_ok-links.links.links.items c.in_ok-levels.levels.items c.deref.result.now
    c.deref-2.result.now c.settled.new.finder.labels c.in_ok-links.links.nodes c.trade_node-null.result
    c.walks_from.new.finder c.walks_to.new.finder c.requires c.in_ok-links.ensures.links c.in_ok-levels.ensures.kept
    c.in_ok-levels.ensures.labelled (omega (arith, sized, count, node)) c.in_ok-links.ensures.nodes
    c.deref.ensures.value c.deref-2.ensures.value c.walks_from.ensures.walks c.walks_to.ensures.walks) t
    (omega (arith, below, sized, count)))

pub returns-clause-ranges : goal.returns-clause-ranges
returns-clause-ranges c =
    let sized = c.args.market.now.trades.ok.0 in
    let count = c.len-trades.ensures in
    let node = c.trade_node-null.ensures in
    ranges_are c.args.market.now c.in_ok-links.links.links.items c.in_ok-levels.levels.items
    (label_in c.settled.new.finder.labels) c.walks_from.new.finder c.walks_to.new.finder
    (found_by c.args.market.now c.in_ok-links.links.links.items c.in_ok-levels.levels.items c.deref.result.now
    c.deref-2.result.now c.settled.new.finder.labels c.in_ok-links.links.nodes c.trade_node-null.result
    c.walks_from.new.finder c.walks_to.new.finder c.requires c.in_ok-links.ensures.links c.in_ok-levels.ensures.kept
    c.in_ok-levels.ensures.labelled (omega (arith, sized, count, node)) c.in_ok-links.ensures.nodes
    c.deref.ensures.value c.deref-2.ensures.value c.walks_from.ensures.walks c.walks_to.ensures.walks)
    c.in_ok-counts.counts.items c.in_ok-ranges.ranges.items c.len-trades.result c.trade_node-place.result
    (omega (arith, sized, count)) c.trade_node-place.ensures
    (c.in_ok-counts.ensures ∙ ap (λ (ls : List ℕ). map (λ t. get_or ls (c.trade_node-place.result + t) 0)
    (range_with_len 0 c.len-trades.result)) c.deref-3.ensures.value) c.in_ok-ranges.ensures

pub returns-clause-small : goal.returns-clause-small
returns-clause-small c =
    let sized = c.args.market.now.trades.ok.0 in
    let count = c.len-trades.ensures in
    let node = c.trade_node-null.ensures in
    ranges_small c.args.market.now c.in_ok-links.links.links.items c.in_ok-levels.levels.items
    (label_in c.settled.new.finder.labels) c.walks_from.new.finder c.walks_to.new.finder
    (found_by c.args.market.now c.in_ok-links.links.links.items c.in_ok-levels.levels.items c.deref.result.now
    c.deref-2.result.now c.settled.new.finder.labels c.in_ok-links.links.nodes c.trade_node-null.result
    c.walks_from.new.finder c.walks_to.new.finder c.requires c.in_ok-links.ensures.links c.in_ok-levels.ensures.kept
    c.in_ok-levels.ensures.labelled (omega (arith, sized, count, node)) c.in_ok-links.ensures.nodes
    c.deref.ensures.value c.deref-2.ensures.value c.walks_from.ensures.walks c.walks_to.ensures.walks)
    c.in_ok-counts.counts.items c.in_ok-ranges.ranges.items c.len-trades.result c.trade_node-place.result
    (omega (arith, sized, count)) c.trade_node-place.ensures
    (c.in_ok-counts.ensures ∙ ap (λ (ls : List ℕ). map (λ t. get_or ls (c.trade_node-place.result + t) 0)
    (range_with_len 0 c.len-trades.result)) c.deref-3.ensures.value) c.in_ok-ranges.ensures
