-- What shows the clauses of `search` of `src/chain.rt`.
use Rattle.std.proofs.Common.{◌∙◌, ◌+◌, ◌<◌, ℕ, map, length, arith, sym, ap, subst}
use Rattle.std.proofs.lemmas.Result.{IfOk-weaker}
use Rattle.tn_residual.specs.Residual.{unsigned, unsigned_part}
use Rattle.tn_base.specs.Sets.{size}
use Rattle.tn_base.specs.Walks.{AreDifferent, arcs_among, is_admitted, KeepsArcs}
use Rattle.tn_graph.specs.Blocks.{arcs_of}
use Rattle.tn_chain.specs.Listed.{IsBegin, AreAtNodes}
use Rattle.tn_chain.specs.Search.{HasCycle, IsBlockingChain}
use Rattle.tn_chain.proofs.SearchLemmas.{broken_in_graph, still_cycle, less_left}
use Rattle.tn_chain.proofs.ChainLemmas.{round_of, node_is, number_priced, is_blocking, same_from, apart_from}
use Rattle.tn_chain.proofs.chain.search.Goals as goal

pub loop-on-init : goal.loop-on-init
loop-on-init g c = record {
  has_cycle = subst (HasCycle (map g.V.Valuation.firm c.args.market.now.firms) c.args.market.now.trades
      c.args.outcome.now.over c.args.outcome.now.contracts)
      (sym (c.unsigned_trades-left.ensures ∙ ap (λ (n : ℕ). unsigned n c.args.outcome.now.contracts)
      c.trades-null.ensures.count)) c.requires.broken;
  finder_sized = c.requires.finder_sized;
  solver_sized = c.requires.made_for;
}

pub find_cycle-count-requires-clause-finder_sized : goal.find_cycle-count-requires-clause-finder_sized
find_cycle-count-requires-clause-finder_sized g c =
    c.loop-on.invariant.finder_sized ∙ ap (λ (n : ℕ). n + 1) (sym c.trades-null.ensures.count)

pub find_cycle-count-requires-clause-broken : goal.find_cycle-count-requires-clause-broken
find_cycle-count-requires-clause-broken g c = λ label keeps.
    broken_in_graph (map g.V.Valuation.firm c.args.market.now.firms) c.args.market.now.trades c.args.outcome.now.over
    c.args.outcome.now.contracts c.args.graph.now c.requires.graph c.loop-on.left c.loop-on.invariant.has_cycle
    label
    (subst (λ (n : ℕ). KeepsArcs (arcs_among (is_admitted n c.loop-on.left) (arcs_of c.args.graph.now)) label)
    c.trades-null.ensures.count keeps)

pub listed_trades-cycle-requires-clause-different : goal.listed_trades-cycle-requires-clause-different
listed_trades-cycle-requires-clause-different g c =
    let round = c.find_cycle-count.ensures.cycle.1 in
    subst AreDifferent (sym round.nodes_are) round.cycle.different

pub listed_trades-cycle-requires-clause-counted : goal.listed_trades-cycle-requires-clause-counted
listed_trades-cycle-requires-clause-counted g c = c.find_cycle-count.ensures.cycle.1.counted

pub solve_among-requires-clause-made_for : goal.solve_among-requires-clause-made_for
solve_among-requires-clause-made_for g c = c.loop-on.invariant.solver_sized

pub contracts_at-requires-clause-counted : goal.contracts_at-requires-clause-counted
contracts_at-requires-clause-counted g c = c.find_cycle-count.ensures.cycle.1.counted

pub contracts_at-requires-clause-few : goal.contracts_at-requires-clause-few
contracts_at-requires-clause-few g c = λ k v above is.
    let node = node_is (map g.V.Valuation.firm c.args.market.now.firms) c.args.market.now.trades c.args.outcome.now.over
    c.args.outcome.now.contracts c.loop-on.left c.find_cycle-count.new.finder.listed
    c.find_cycle-count.ensures.cycle.0 c.find_cycle-count.result c.listed_trades-cycle.result
    c.solve_among.new.solver
    (round_of (map g.V.Valuation.firm c.args.market.now.firms) c.args.market.now.trades c.args.outcome.now.over
    c.args.outcome.now.contracts c.args.graph.now c.requires.graph c.trades-null.result c.trades-null.ensures.count
    c.requires.rational c.loop-on.left c.loop-on.invariant.has_cycle
    c.find_cycle-count.new.finder.listed c.find_cycle-count.result c.find_cycle-count.ensures.cycle
    c.listed_trades-cycle.result c.listed_trades-cycle.ensures c.solve_among.new.solver
    c.solve_among.ensures.solved) c.first_trade-first.result
    (subst (λ (n : ℕ). IsBegin n c.find_cycle-count.new.finder.listed c.first_trade-first.result)
    c.trades-null.ensures.count c.first_trade-first.ensures) k v above is in
    let below = node.0 in
    let few = c.requires.few in
    omega (arith, below, few)

pub contracts_at-requires-clause-free : goal.contracts_at-requires-clause-free
contracts_at-requires-clause-free g c = λ k v above is.
    (node_is (map g.V.Valuation.firm c.args.market.now.firms) c.args.market.now.trades c.args.outcome.now.over
    c.args.outcome.now.contracts c.loop-on.left c.find_cycle-count.new.finder.listed
    c.find_cycle-count.ensures.cycle.0 c.find_cycle-count.result c.listed_trades-cycle.result
    c.solve_among.new.solver
    (round_of (map g.V.Valuation.firm c.args.market.now.firms) c.args.market.now.trades c.args.outcome.now.over
    c.args.outcome.now.contracts c.args.graph.now c.requires.graph c.trades-null.result c.trades-null.ensures.count
    c.requires.rational c.loop-on.left c.loop-on.invariant.has_cycle
    c.find_cycle-count.new.finder.listed c.find_cycle-count.result c.find_cycle-count.ensures.cycle
    c.listed_trades-cycle.result c.listed_trades-cycle.ensures c.solve_among.new.solver
    c.solve_among.ensures.solved) c.first_trade-first.result
    (subst (λ (n : ℕ). IsBegin n c.find_cycle-count.new.finder.listed c.first_trade-first.result)
    c.trades-null.ensures.count c.first_trade-first.ensures) k v above is).1

pub contracts_at-requires-clause-priced : goal.contracts_at-requires-clause-priced
contracts_at-requires-clause-priced g c = λ k v above is.
    let node = node_is (map g.V.Valuation.firm c.args.market.now.firms) c.args.market.now.trades c.args.outcome.now.over
    c.args.outcome.now.contracts c.loop-on.left c.find_cycle-count.new.finder.listed
    c.find_cycle-count.ensures.cycle.0 c.find_cycle-count.result c.listed_trades-cycle.result
    c.solve_among.new.solver
    (round_of (map g.V.Valuation.firm c.args.market.now.firms) c.args.market.now.trades c.args.outcome.now.over
    c.args.outcome.now.contracts c.args.graph.now c.requires.graph c.trades-null.result c.trades-null.ensures.count
    c.requires.rational c.loop-on.left c.loop-on.invariant.has_cycle
    c.find_cycle-count.new.finder.listed c.find_cycle-count.result c.find_cycle-count.ensures.cycle
    c.listed_trades-cycle.result c.listed_trades-cycle.ensures c.solve_among.new.solver
    c.solve_among.ensures.solved) c.first_trade-first.result
    (subst (λ (n : ℕ). IsBegin n c.find_cycle-count.new.finder.listed c.first_trade-first.result)
    c.trades-null.ensures.count c.first_trade-first.ensures) k v above is in
    number_priced (map g.V.Valuation.firm c.args.market.now.firms) c.args.market.now.trades c.args.outcome.now.over
    c.args.outcome.now.contracts c.listed_trades-cycle.result c.solve_among.new.solver c.solve_among.ensures.solved
    v node.0 node.1

pub returns-then-eq : goal.returns-then-eq
returns-then-eq g c =
    IfOk-weaker c.contracts_at.result (AreAtNodes c.args.outcome.now.contracts c.solve_among.new.solver.prices
    c.find_cycle-count.new.finder.listed c.first_trade-first.result c.find_cycle-count.result)
    (IsBlockingChain (map g.V.Valuation.firm c.args.market.now.firms) c.args.market.now.trades c.args.outcome.now.over
    c.args.outcome.now.contracts)
    (is_blocking (map g.V.Valuation.firm c.args.market.now.firms) c.args.market.now.trades c.args.outcome.now.over
    c.args.outcome.now.contracts c.loop-on.left c.find_cycle-count.new.finder.listed
    c.find_cycle-count.ensures.cycle.0 c.find_cycle-count.result c.listed_trades-cycle.result
    c.solve_among.new.solver
    (round_of (map g.V.Valuation.firm c.args.market.now.firms) c.args.market.now.trades c.args.outcome.now.over
    c.args.outcome.now.contracts c.args.graph.now c.requires.graph c.trades-null.result c.trades-null.ensures.count
    c.requires.rational c.loop-on.left c.loop-on.invariant.has_cycle
    c.find_cycle-count.new.finder.listed c.find_cycle-count.result c.find_cycle-count.ensures.cycle
    c.listed_trades-cycle.result c.listed_trades-cycle.ensures c.solve_among.new.solver
    c.solve_among.ensures.solved)
    (sym (c.trades_numbered-on.ensures ∙ ap (unsigned_part c.args.outcome.now.contracts c.trades-null.result)
    c.on.ensures ∙ ap (λ (n : ℕ). unsigned_part c.args.outcome.now.contracts n c.solve_among.new.solver.on)
    c.trades-null.ensures.count) ∙ same_from c.trades_numbered-on.result c.listed_trades-cycle.result c.eq.result
    c.eq.ensures c.if-eq.true)
    c.first_trade-first.result
    (subst (λ (n : ℕ). IsBegin n c.find_cycle-count.new.finder.listed c.first_trade-first.result)
    c.trades-null.ensures.count c.first_trade-first.ensures))
    c.contracts_at.ensures

pub loop-on-smaller : goal.loop-on-smaller
loop-on-smaller g c =
    subst (λ (x : ℕ). size x < size c.loop-on.left) (sym (c.trades_numbered-on.ensures
    ∙ ap (unsigned_part c.args.outcome.now.contracts c.trades-null.result) c.on.ensures
    ∙ ap (λ (n : ℕ). unsigned_part c.args.outcome.now.contracts n c.solve_among.new.solver.on)
    c.trades-null.ensures.count))
    (less_left (map g.V.Valuation.firm c.args.market.now.firms) c.args.market.now.trades c.args.outcome.now.over
    c.args.outcome.now.contracts c.loop-on.left c.find_cycle-count.new.finder.listed
    c.find_cycle-count.ensures.cycle.0 c.find_cycle-count.result c.listed_trades-cycle.result
    c.solve_among.new.solver
    (round_of (map g.V.Valuation.firm c.args.market.now.firms) c.args.market.now.trades c.args.outcome.now.over
    c.args.outcome.now.contracts c.args.graph.now c.requires.graph c.trades-null.result c.trades-null.ensures.count
    c.requires.rational c.loop-on.left c.loop-on.invariant.has_cycle
    c.find_cycle-count.new.finder.listed c.find_cycle-count.result c.find_cycle-count.ensures.cycle
    c.listed_trades-cycle.result c.listed_trades-cycle.ensures c.solve_among.new.solver
    c.solve_among.ensures.solved)
    (λ same. apart_from c.trades_numbered-on.result c.listed_trades-cycle.result c.eq.result c.eq.ensures c.if-eq.false
    ((c.trades_numbered-on.ensures ∙ ap (unsigned_part c.args.outcome.now.contracts c.trades-null.result)
    c.on.ensures ∙ ap (λ (n : ℕ). unsigned_part c.args.outcome.now.contracts n c.solve_among.new.solver.on)
    c.trades-null.ensures.count) ∙ same)))

pub loop-on-preserved : goal.loop-on-preserved
loop-on-preserved g c = record {
  has_cycle = subst (HasCycle (map g.V.Valuation.firm c.args.market.now.firms) c.args.market.now.trades
      c.args.outcome.now.over c.args.outcome.now.contracts)
      (sym (c.trades_numbered-on.ensures ∙ ap (unsigned_part c.args.outcome.now.contracts c.trades-null.result)
      c.on.ensures ∙ ap (λ (n : ℕ). unsigned_part c.args.outcome.now.contracts n c.solve_among.new.solver.on)
      c.trades-null.ensures.count))
      (still_cycle (map g.V.Valuation.firm c.args.market.now.firms) c.args.market.now.trades c.args.outcome.now.over
      c.args.outcome.now.contracts c.loop-on.left c.find_cycle-count.new.finder.listed
      c.find_cycle-count.ensures.cycle.0 c.find_cycle-count.result c.listed_trades-cycle.result
      c.solve_among.new.solver
      (round_of (map g.V.Valuation.firm c.args.market.now.firms) c.args.market.now.trades c.args.outcome.now.over
      c.args.outcome.now.contracts c.args.graph.now c.requires.graph c.trades-null.result
      c.trades-null.ensures.count c.requires.rational c.loop-on.left c.loop-on.invariant.has_cycle
      c.find_cycle-count.new.finder.listed c.find_cycle-count.result c.find_cycle-count.ensures.cycle
      c.listed_trades-cycle.result c.listed_trades-cycle.ensures c.solve_among.new.solver
      c.solve_among.ensures.solved));
  finder_sized = c.find_cycle-count.ensures.sized ∙ ap (λ (n : ℕ). n + 1) c.trades-null.ensures.count;
  solver_sized = c.solve_among.ensures.solved.sized ∙ ap length (sym c.requires.residual.ends);
}
