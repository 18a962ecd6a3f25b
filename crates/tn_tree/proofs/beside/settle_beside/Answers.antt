-- What shows the clauses of `settle_beside` of `src/beside.rt`.
use Rattle.std.proofs.Common.{ℕ, ◌+◌, List, map, get_or, refl, ap, ◌∙◌, arith}
use Rattle.std.specs.List.{range_with_len}
use Rattle.tn_tree.proofs.BesideLemmas.{settled_beside}
use Rattle.tn_tree.proofs.SolveLemmas.{labels_small}
use Rattle.tn_tree.proofs.beside.settle_beside.Goals as goal

pub prices_by-requires-clause-small : goal.prices_by-requires-clause-small
prices_by-requires-clause-small c =
    labels_small c.in_ok-links.links.nodes (c.trade_node-nodes.result + 1) c.in_ok-links.links.links.items
    c.in_ok-levels.levels.items c.settled.new.finder.labels c.in_ok-links.links.plain
    (let few = c.in_ok-links.links.few_nodes in let nodes = c.in_ok-links.ensures.nodes in
    omega (arith, few, nodes, c.trade_node-nodes.ensures)) c.in_ok-levels.ensures.labelled

pub returns : goal.returns
returns c =
    let sized = c.args.market.now.trades.ok.0 in
    let count = c.len-trades.ensures in
    settled_beside c.args.market.now c.args.pins.now c.in_ok-links.links.links.items c.in_ok-levels.levels.items
    c.settled.new.finder.labels (c.trade_node-nodes.result + 1) _ c.len-trades.result c.trade_node-place.result
    (c.trade_node-place.result + c.len-trades.result) c.requires.market c.requires.pins c.in_ok-links.ensures.links
    c.in_ok-levels.ensures.kept c.in_ok-levels.ensures.labelled (omega (arith, sized, count, c.trade_node-nodes.ensures))
    (omega (arith, sized, count)) c.trade_node-place.ensures refl
    (c.in_ok-sold.ensures ∙ ap (λ (ls : List ℕ). map (λ t. get_or ls (c.trade_node-place.result + t) 0)
    (range_with_len 0 c.len-trades.result)) c.deref.ensures.value)
    (c.in_ok-bought.ensures ∙ ap (λ (ls : List ℕ). map (λ t. get_or ls
    (c.trade_node-place.result + c.len-trades.result + t) 0) (range_with_len 0 c.len-trades.result)) c.deref-2.ensures.value)
    c.in_ok-prices.ensures
