-- What shows the clauses of `write_row` of `src/graph.rt`.
use Rattle.std.proofs.Common.{◌+◌, map, length, arith, subst, sym}
use Rattle.tn_base.specs.Sets.{has}
use Rattle.tn_market.specs.Reduced.{reduced_arc, reduced_firms}
use Rattle.tn_graph.specs.Layout.{IsLaidOut}
use Rattle.tn_graph.proofs.PlacedLemmas.{placed_cost}
use Rattle.tn_chain.proofs.MoveLemmas.{reduced_arcs_small}
use Rattle.tn_chain.proofs.CostLemmas.{cost_small}
use Rattle.tn_chain.proofs.RowLemmas.{row_begun, row_next, row_done, row_node, row_place}
use Rattle.tn_chain.proofs.graph.write_row.Goals as goal

pub successors-k-end-requires : goal.successors-k-end-requires
successors-k-end-requires g c =
    let nodes = c.requires.written.nodes_are in
    let from = c.requires.from in
    omega (arith, nodes, from)

pub loop-k-init : goal.loop-k-init
loop-k-init g c = record {
  laid_out = c.requires.laid_out;
  row = row_begun (reduced_arc (map g.V.Valuation.firm c.args.market.now.firms) c.args.market.now.trades
      c.args.outcome.now.over c.args.outcome.now.contracts) (length c.args.market.now.trades + 1) c.args.u
      c.args.graph.now c.requires.written;
}

pub successor-v-requires-clause-from : goal.successor-v-requires-clause-from
successor-v-requires-clause-from g c =
    let nodes = c.loop-k.invariant.row.written.nodes_are in
    let from = c.requires.from in
    omega (arith, nodes, from)

pub successor-v-requires-clause-place : goal.successor-v-requires-clause-place
successor-v-requires-clause-place g c = row_place (reduced_arc (map g.V.Valuation.firm c.args.market.now.firms) c.args.market.now.trades
    c.args.outcome.now.over c.args.outcome.now.contracts) (length c.args.market.now.trades + 1) c.args.u c.loop-k.k
    c.successors-k-end.result c.args.graph.now c.loop-k.graph c.loop-k.invariant.row c.successors-k-end.ensures
    c.loop-k-test.true

pub reduced_cost-cost-requires-clause-to : goal.reduced_cost-cost-requires-clause-to
reduced_cost-cost-requires-clause-to g c =
    let node = row_node (reduced_arc (map g.V.Valuation.firm c.args.market.now.firms) c.args.market.now.trades
    c.args.outcome.now.over c.args.outcome.now.contracts) (length c.args.market.now.trades + 1) c.args.u c.loop-k.k c.successor-v.result
    c.successors-k-end.result c.args.graph.now c.loop-k.graph c.loop-k.invariant.row
    (let from = c.requires.from in omega (arith, from)) c.successors-k-end.ensures c.loop-k-test.true
    c.successor-v.ensures in
    omega (arith, node)

pub set-requires-clause-from : goal.set-requires-clause-from
set-requires-clause-from g c =
    let nodes = c.loop-k.invariant.row.written.nodes_are in
    let from = c.requires.from in
    omega (arith, nodes, from)

pub set-requires-clause-to : goal.set-requires-clause-to
set-requires-clause-to g c =
    let node = row_node (reduced_arc (map g.V.Valuation.firm c.args.market.now.firms) c.args.market.now.trades
    c.args.outcome.now.over c.args.outcome.now.contracts) (length c.args.market.now.trades + 1) c.args.u c.loop-k.k c.successor-v.result
    c.successors-k-end.result c.args.graph.now c.loop-k.graph c.loop-k.invariant.row
    (let from = c.requires.from in omega (arith, from)) c.successors-k-end.ensures c.loop-k-test.true
    c.successor-v.ensures in
    let nodes = c.loop-k.invariant.row.written.nodes_are in
    omega (arith, node, nodes)

pub set-requires-clause-small : goal.set-requires-clause-small
set-requires-clause-small g c =
    cost_small (reduced_arc (map g.V.Valuation.firm c.args.market.now.firms) c.args.market.now.trades
    c.args.outcome.now.over c.args.outcome.now.contracts)
    (reduced_arcs_small g.V.Valuation.firm g.V.Valuation.limit c.args.market.now c.args.outcome.now.over
    c.args.outcome.now.contracts c.requires.network c.requires.limits c.requires.outcome
    (λ v. (g.met.V.Valuation.lawful v).within)) c.args.u c.successor-v.result c.reduced_cost-cost.result
    c.reduced_cost-cost.ensures.cost

pub set-requires-clause-placed : goal.set-requires-clause-placed
set-requires-clause-placed g c =
    placed_cost (reduced_firms c.args.market.now.trades c.args.outcome.now.over c.args.outcome.now.contracts
    (map g.V.Valuation.firm c.args.market.now.firms)) c.args.market.now.trades 0 c.loop-k.graph.nodes
    c.loop-k.graph.places c.loop-k.invariant.laid_out c.loop-k.invariant.row.written.nodes_are c.args.u
    c.successor-v.result c.reduced_cost-cost.result c.reduced_cost-cost.ensures.cost

pub loop-k-preserved : goal.loop-k-preserved
loop-k-preserved g c = record {
  laid_out = subst (IsLaidOut c.args.market.now.trades (has 0)) (sym c.set.ensures.places)
      c.loop-k.invariant.laid_out;
  row = row_next (reduced_arc (map g.V.Valuation.firm c.args.market.now.firms) c.args.market.now.trades
      c.args.outcome.now.over c.args.outcome.now.contracts) (length c.args.market.now.trades + 1) c.args.u c.loop-k.k
      c.successor-v.result c.args.graph.now c.loop-k.graph c.set.new.self c.reduced_cost-cost.result
      c.loop-k.invariant.row c.successor-v.ensures c.set.ensures c.reduced_cost-cost.ensures.cost;
}

pub returns : goal.returns
returns g c =
    let past = c.loop-k-test.false in
    let count = c.successors-k-end.ensures in
    record {
      laid_out = c.loop-k.invariant.laid_out;
      written = row_done (reduced_firms c.args.market.now.trades c.args.outcome.now.over c.args.outcome.now.contracts
          (map g.V.Valuation.firm c.args.market.now.firms)) c.args.market.now.trades 0 c.args.u c.loop-k.k
          c.args.graph.now c.loop-k.graph c.loop-k.invariant.row c.loop-k.invariant.laid_out
          (omega (arith, past, count));
    }
