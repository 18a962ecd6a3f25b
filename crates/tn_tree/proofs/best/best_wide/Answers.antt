-- What shows the clauses of `best_wide` of `src/best.rt`.
use Rattle.std.proofs.Common.{ℕ, ◌+◌, List, length, map, get_or, refl, sym, ap, subst, ◌∙◌, arith}
use Rattle.std.specs.List.{range_with_len}
use Rattle.tn_counts.specs.Markets.{ArePins}
use Rattle.tn_counts.specs.Tree.{AreLinksOf}
use Rattle.tn_tree.proofs.SolveLemmas.{best_read, pins_are, sized_by}
use Rattle.tn_tree.proofs.best.best_wide.Goals as goal

pub links_of-requires-clause-pins : goal.links_of-requires-clause-pins
links_of-requires-clause-pins c =
    subst (ArePins (length c.args.market.now.trades.items)) (sym c.deref.ensures.value)
    (pins_are (length c.args.market.now.trades.items) c.args.prices.now c.in_ok-pins.pins.items c.in_ok-pins.ensures
    c.requires.as_many c.requires.small)

pub returns-clause-sold : goal.returns-clause-sold
returns-clause-sold c =
    let sized = c.args.market.now.trades.ok.0 in
    let count = c.len-trades.ensures in
    sized_by (λ t. get_or c.deref-2.result.now (c.trade_node-place.result + t) 0) c.in_ok-sold.sold.items
    c.len-trades.result (length c.args.market.now.trades.items) c.in_ok-sold.ensures (omega (arith, sized, count))

pub returns-clause-bought : goal.returns-clause-bought
returns-clause-bought c =
    let sized = c.args.market.now.trades.ok.0 in
    let count = c.len-trades.ensures in
    sized_by (λ t. get_or c.deref-3.result.now (c.trade_node-place.result + c.len-trades.result + t) 0)
    c.in_ok-bought.bought.items c.len-trades.result (length c.args.market.now.trades.items) c.in_ok-bought.ensures
    (omega (arith, sized, count))

pub returns-clause-best : goal.returns-clause-best
returns-clause-best c =
    let sized = c.args.market.now.trades.ok.0 in
    let count = c.len-trades.ensures in
    best_read c.args.market.now c.args.prices.now c.in_ok-pins.pins.items c.in_ok-links.links.links.items
    c.in_ok-levels.levels.items c.settled.new.finder.labels (c.trade_node-nodes.result + 1) c.in_ok-sold.sold.items
    c.in_ok-bought.bought.items c.len-trades.result c.trade_node-place.result
    (c.trade_node-place.result + c.len-trades.result) c.requires.market
    (pins_are (length c.args.market.now.trades.items) c.args.prices.now c.in_ok-pins.pins.items c.in_ok-pins.ensures
    c.requires.as_many c.requires.small) c.in_ok-pins.ensures c.requires.as_many
    (subst (λ pins. AreLinksOf c.args.market.now pins c.in_ok-links.links.links.items) c.deref.ensures.value
    c.in_ok-links.ensures.links) c.in_ok-levels.ensures.kept c.in_ok-levels.ensures.labelled
    (omega (arith, sized, count)) c.trade_node-place.ensures refl
    (c.in_ok-sold.ensures ∙ ap (λ (ls : List ℕ). map (λ t. get_or ls (c.trade_node-place.result + t) 0)
    (range_with_len 0 c.len-trades.result)) c.deref-2.ensures.value)
    (c.in_ok-bought.ensures ∙ ap (λ (ls : List ℕ). map (λ t. get_or ls
    (c.trade_node-place.result + c.len-trades.result + t) 0) (range_with_len 0 c.len-trades.result)) c.deref-3.ensures.value)
