-- What shows the clauses of `ends_in` of `src/nets.rt`.
use Rattle.std.proofs.Common.{◌∙◌, length, get_or, refl, ap, arith, pos, ◌+ℤ◌, ◌-ℤ◌}
use Rattle.std.proofs.lemmas.List.{length-set}
use Rattle.tn_tree.proofs.NetLemmas.{ends_more, ends_sum, few_units, none_yet, one_more}
use Rattle.tn_tree.proofs.nets.ends_in.Goals as goal

pub loop-t-init : goal.loop-t-init
loop-t-init c =
    let sized = c.args.market.now.trades.ok.0 in
    let count = c.len-trades.ensures in
    let node = c.trade_node.ensures in
    let zeros = c.in_ok-nets.ensures.sized in
    record {
      sized = omega (arith, sized, count, node, zeros);
      nets = λ v. none_yet c.args.market.now c.args.sold.now c.args.bought.now c.in_ok-nets.nets.items v
          (c.in_ok-nets.ensures.zeros v);
    }

pub bring-requires-clause-before : goal.bring-requires-clause-before
bring-requires-clause-before c =
    let sized = c.args.market.now.trades.ok.0 in
    let count = c.len-trades.ensures in
    let below = c.loop-t-test.true in
    few_units (ends_sum c.args.market.now c.args.sold.now c.args.bought.now c.loop-t.nets.items c.loop-t.t
    c.buyer_end.result c.requires.market c.requires.sold c.requires.bought (omega (arith, sized, count, below))
    (c.loop-t.invariant.nets c.buyer_end.result))

pub take-requires-clause-before : goal.take-requires-clause-before
take-requires-clause-before c =
    let sized = c.args.market.now.trades.ok.0 in
    let count = c.len-trades.ensures in
    let below = c.loop-t-test.true in
    one_more c.args.market.now c.args.bought.now c.loop-t.nets.items c.bring.new.numbers.items c.buyer_end.result
    c.seller_end.result c.loop-t.t c.requires.market c.requires.bought (omega (arith, sized, count, below))
    (let nodes = c.requires.nodes in let long = c.loop-t.invariant.sized in let inside = c.buyer_end.ensures.inside in
    omega (arith, nodes, long, inside)) c.bring.ensures
    (ends_sum c.args.market.now c.args.sold.now c.args.bought.now c.loop-t.nets.items c.loop-t.t
    c.seller_end.result c.requires.market c.requires.sold c.requires.bought (omega (arith, sized, count, below))
    (c.loop-t.invariant.nets c.seller_end.result))

pub loop-t-preserved : goal.loop-t-preserved
loop-t-preserved c =
    let nodes = c.requires.nodes in
    let long = c.loop-t.invariant.sized in
    let buyer = c.buyer_end.ensures.inside in
    let seller = c.seller_end.ensures.inside in
    let one = ap length c.bring.ensures ∙ length-set c.loop-t.nets.items c.buyer_end.result
    (get_or c.loop-t.nets.items c.buyer_end.result (pos 0) +ℤ pos (get_or c.args.bought.now c.loop-t.t 0)) in
    let two = ap length c.take.ensures ∙ length-set c.bring.new.numbers.items c.seller_end.result
    (get_or c.bring.new.numbers.items c.seller_end.result (pos 0) -ℤ pos (get_or c.args.sold.now c.loop-t.t 0)) in
    record {
      sized = omega (arith, one, two, long);
      nets = λ v. ends_more c.args.market.now c.args.sold.now c.args.bought.now c.loop-t.nets.items
          c.bring.new.numbers.items c.take.new.numbers.items c.buyer_end.result c.seller_end.result c.loop-t.t v
          (get_or c.args.bought.now c.loop-t.t 0) (get_or c.args.sold.now c.loop-t.t 0)
          (omega (arith, nodes, long, buyer)) (omega (arith, nodes, long, seller)) (c.loop-t.invariant.nets v)
          c.bring.ensures c.take.ensures c.buyer_end.ensures.node c.seller_end.ensures.node refl refl;
    }
