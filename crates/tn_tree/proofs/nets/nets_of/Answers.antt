-- What shows the clauses of `nets_of` of `src/nets.rt`.
use Rattle.std.proofs.Common.{ℕ, ◌∙◌, length, get_or, refl, ap, arith, pos, ◌+ℤ◌}
use Rattle.std.proofs.lemmas.Int.{ints}
use Rattle.std.proofs.lemmas.List.{length-set}
use Rattle.tn_counts.specs.Tree.{root_node}
use Rattle.tn_tree.proofs.NetLemmas.{flows_in, flows_small, nothing_up, root_in_is, set_in_is, up_more}
use Rattle.tn_tree.proofs.nets.nets_of.Goals as goal

pub loop-i-init : goal.loop-i-init
loop-i-init c = record {
  sized = c.in_ok-nets.ensures.sized;
  nets = λ v. nothing_up c.args.market.now c.args.sold.now c.args.bought.now c.in_ok-nets.nets.items v
      (c.in_ok-nets.ensures.nets v);
}

pub bring_up-requires-clause-more : goal.bring_up-requires-clause-more
bring_up-requires-clause-more c =
    let so_far = c.loop-i.invariant.nets c.loop-i.i in
    let few = c.requires.market.few_sets in
    let small = flows_small c.args.market.now c.args.sold.now c.args.bought.now c.loop-i.i c.loop-i.i
    c.requires.market c.requires.sold c.requires.bought (omega (arith, few)) in
    record { low = omega (arith, ints, small.low, so_far); high = omega (arith, ints, small.high, so_far) }

pub bring_up-requires-clause-before : goal.bring_up-requires-clause-before
bring_up-requires-clause-before c =
    let so_far = c.loop-i.invariant.nets c.set_end.result in
    let few = c.requires.market.few_sets in
    let small = flows_small c.args.market.now c.args.sold.now c.args.bought.now c.loop-i.i c.set_end.result
    c.requires.market c.requires.sold c.requires.bought (omega (arith, few)) in
    record { low = omega (arith, ints, small.low, so_far); high = omega (arith, ints, small.high, so_far) }

pub loop-i-preserved : goal.loop-i-preserved
loop-i-preserved c =
    let nodes = c.requires.nodes in
    let long = c.loop-i.invariant.sized in
    let inside = c.set_end.ensures.inside in
    let before = c.loop-i.nets.items in
    let one = ap length c.bring_up.ensures ∙ length-set before c.set_end.result
    (get_or before c.set_end.result (pos 0) +ℤ get_or before c.loop-i.i (pos 0)) in
    record {
      sized = omega (arith, one, long);
      nets = λ v. up_more c.args.market.now c.args.sold.now c.args.bought.now before c.bring_up.new.numbers.items
          c.set_end.result c.loop-i.i v (get_or before c.loop-i.i (pos 0)) c.requires.market (omega arith)
          (omega (arith, nodes, long, inside)) c.loop-i.invariant.nets refl c.bring_up.ensures c.set_end.ensures.node;
    }

pub returns-clause-sets : goal.returns-clause-sets
returns-clause-sets c = λ i below. c.loop-i.invariant.nets i
    ∙ ap (λ (k : ℕ). flows_in c.args.market.now c.args.sold.now c.args.bought.now k i) (omega (arith, c.loop-i-test.false))
    ∙ set_in_is c.args.market.now c.args.sold.now c.args.bought.now i c.requires.market below

pub returns-clause-roots : goal.returns-clause-roots
returns-clause-roots c = λ f below. c.loop-i.invariant.nets (root_node c.args.market.now f)
    ∙ ap (λ (k : ℕ). flows_in c.args.market.now c.args.sold.now c.args.bought.now k (root_node c.args.market.now f))
    (omega (arith, c.loop-i-test.false))
    ∙ root_in_is c.args.market.now c.args.sold.now c.args.bought.now f c.requires.market
