-- What the loops of `reduced_graph` of `src/graph.rt` keep.
use Rattle.std.proofs.Common.{map, length, ◌+◌}
use Rattle.tn_base.specs.Sets.{has}
use Rattle.tn_graph.specs.Layout.{IsLaidOut}
use Rattle.tn_market.specs.Reduced.{reduced_arc}
use Rattle.tn_chain.specs.Moves.{AreWritten}
use Rattle.tn_chain.proofs.graph.reduced_graph.Given as goal

abbrev pub invariant-loop-u : goal.invariant-loop-u
invariant-loop-u g l = record {
  laid_out : IsLaidOut l.market.trades (has 0) l.graph.places;
  written : AreWritten (reduced_arc (map g.V.Valuation.firm l.market.firms) l.market.trades l.outcome.over
      l.outcome.contracts) (length l.market.trades + 1) l.u l.graph;
}
