-- What shows the clauses of `reduced_graph` of `src/graph.rt`.
use Rattle.std.proofs.Common.{ℕ, ◌+◌, ◌∙◌, ap, map, length, arith, subst, lit<}
use Rattle.tn_base.specs.Sets.{has}
use Rattle.tn_graph.specs.Layout.{IsLaidOut}
use Rattle.tn_graph.specs.Reading.{IsWithoutArcs}
use Rattle.tn_chain.specs.Limits.{most_reduced_cost}
use Rattle.tn_market.specs.Reduced.{reduced_arc, reduced_firms}
use Rattle.tn_chain.proofs.MoveLemmas.{reduced_arcs_small}
use Rattle.tn_chain.proofs.CostLemmas.{none_written, all_written, small_graph}
use Rattle.tn_chain.proofs.graph.reduced_graph.Goals as goal

pub lay_out-requires : goal.lay_out-requires
lay_out-requires g c =
    let few = c.requires.limits.few_trades in
    (lit< tt, (omega (arith, few), c.in_ok-graph.ensures.nodes ∙ ap (λ (n : ℕ). n + 1) c.trades-nodes.ensures.count))

pub loop-u-init : goal.loop-u-init
loop-u-init g c =
    let count = c.trades-nodes.ensures.count in record {
      laid_out = subst (λ (x : ℕ). IsLaidOut c.args.market.now.trades (has x) c.lay_out.new.self.places) c.empty.ensures
          c.lay_out.ensures.laid_out;
      written = none_written (reduced_arc (map g.V.Valuation.firm c.args.market.now.firms) c.args.market.now.trades
          c.args.outcome.now.over c.args.outcome.now.contracts) (length c.args.market.now.trades + 1) c.lay_out.new.self
          (subst (λ (n : ℕ). IsWithoutArcs n c.lay_out.new.self)
          (c.in_ok-graph.ensures.nodes ∙ ap (λ (n : ℕ). n + 1) count)
          c.lay_out.ensures.without);
    }

pub write_row-requires-clause-written : goal.write_row-requires-clause-written
write_row-requires-clause-written g c = c.loop-u.invariant.written

pub loop-u-preserved : goal.loop-u-preserved
loop-u-preserved g c = record { laid_out = c.write_row.ensures.laid_out; written = c.write_row.ensures.written }

pub returns-clause-graph : goal.returns-clause-graph
returns-clause-graph g c =
    let test = c.loop-u-test.false in
    let count = c.trades-nodes.ensures.count in
    all_written (reduced_firms c.args.market.now.trades c.args.outcome.now.over c.args.outcome.now.contracts
    (map g.V.Valuation.firm c.args.market.now.firms)) c.args.market.now.trades 0
    c.loop-u.u c.loop-u.graph c.loop-u.invariant.written (omega (arith, test, count)) c.loop-u.invariant.laid_out

pub returns-clause-small : goal.returns-clause-small
returns-clause-small g c =
    small_graph (reduced_arc (map g.V.Valuation.firm c.args.market.now.firms) c.args.market.now.trades
    c.args.outcome.now.over c.args.outcome.now.contracts) most_reduced_cost c.loop-u.graph
    (reduced_arcs_small g.V.Valuation.firm g.V.Valuation.limit c.args.market.now c.args.outcome.now.over
    c.args.outcome.now.contracts c.trades-nodes.ensures.network c.requires.limits
    c.requires.outcome (λ v. (g.met.V.Valuation.lawful v).within)) (returns-clause-graph g c).arcs
