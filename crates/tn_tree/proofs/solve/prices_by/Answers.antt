-- What shows the clauses of `prices_by` of `src/solve.rt`.
use Rattle.std.proofs.Common.{◌≡◌, ◌-ℤ◌, ◌∙◌, ap₂, arith}
use Rattle.std.proofs.lemmas.Int.{ints, to_z-of_z}
use mir.Syntax.{w128}
use mir.Val.{SFits}
use Rattle.tn_counts.specs.Tree.{null_node, price_by}
use Rattle.tn_cycle.specs.Answers.{label_in}
use Rattle.tn_tree.proofs.ListLemmas.{items_more}
use Rattle.tn_tree.proofs.solve.prices_by.Goals as goal

pub loop-t-preserved : goal.loop-t-preserved
loop-t-preserved c =
    let sized = c.args.market.now.trades.ok.0 in
    let count = c.len-trades.ensures in
    let null : c.trade_node-null.result ≡ null_node c.args.market.now =
    let node = c.trade_node-null.ensures in omega (arith, node, sized, count) in
    let labelled = c.requires.labelled in
    let here = c.trade_node.ensures in
    let below = c.loop-t-test.true in
    let one = c.requires.small c.trade_node.result (omega (arith, labelled, here, below, sized)) in
    let last = c.requires.small c.trade_node-null.result (omega (arith, labelled, null)) in
    let less = c.label_less.ensures in
    let fits : SFits w128 c.label_less.result = omega (arith, ints, one.low, one.high, last.low, last.high, less) in
    let made = simp to_z-of_z at c.in_ok-push.ensures.items in
    items_more (price_by c.args.market.now (label_in c.args.finder.now.labels)) c.loop-t.prices.items
    c.push.new.self.items c.label_less.result c.loop-t.t made c.loop-t.invariant
    (c.label_less.ensures
    ∙ ap₂ (λ v w. label_in c.args.finder.now.labels v -ℤ label_in c.args.finder.now.labels w) c.trade_node.ensures null)
