-- What shows the clauses of `all_links` of `src/build.rt`.
use Rattle.std.proofs.Common.{length, map, ap}
use Rattle.std.specs.List.{range_with_len}
use Rattle.tn_counts.specs.Tree.{buyer_shape, pin_shape, root_shape, seller_shape, shape_of}
use Rattle.tn_tree.specs.Shapes.{set_shapes}
use Rattle.tn_tree.proofs.BuildLemmas.{links_made, stages}
use Rattle.tn_tree.proofs.build.all_links.Goals as goal

pub returns : goal.returns
returns c =
    let market = c.args.market.now in
    let trades = length market.trades.items in
    links_made market c.args.pins.now c.add_pins.new.links.items
    (stages (map shape_of c.new-links.result.items) (set_shapes market 0 market.sets.items)
    (map (root_shape market) (range_with_len 0 market.firms)) (map (seller_shape market) (range_with_len 0 trades))
    (map (buyer_shape market) (range_with_len 0 trades)) (map (pin_shape market) c.args.pins.now)
    (map shape_of c.add_sets.new.links.items) (map shape_of c.add_roots.new.links.items)
    (map shape_of c.add_sellers.new.links.items) (map shape_of c.add_buyers.new.links.items)
    (map shape_of c.add_pins.new.links.items) (ap (map shape_of) c.new-links.ensures.items) c.in_ok-add_sets.ensures
    c.in_ok-add_roots.ensures c.in_ok-add_sellers.ensures c.in_ok-add_buyers.ensures c.in_ok-add_pins.ensures)
