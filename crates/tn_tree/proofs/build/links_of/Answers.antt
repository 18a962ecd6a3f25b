-- What shows the clauses of `links_of` of `src/build.rt`.
use Rattle.std.proofs.Common.{◌≡◌, ◌+◌, suc, subst, arith}
use Rattle.tn_links.specs.Links.{AreServed}
use Rattle.tn_counts.specs.Tree.{null_node}
use Rattle.tn_tree.proofs.BuildLemmas.{links_served}
use Rattle.tn_tree.proofs.build.links_of.Goals as goal

pub new-requires : goal.new-requires
new-requires c =
    let sized = c.args.market.now.trades.ok.0 in
    let count = c.len.ensures in
    let node = c.trade_node-nodes.ensures in
    let same : suc (null_node c.args.market.now) ≡ c.trade_node-nodes.result + 1 = omega (arith, sized, count, node) in
    subst (λ n. AreServed n c.in_ok-links.links.items) same
    (links_served c.args.market.now c.args.pins.now c.in_ok-links.links.items c.requires.market c.requires.pins
    c.in_ok-links.ensures)
