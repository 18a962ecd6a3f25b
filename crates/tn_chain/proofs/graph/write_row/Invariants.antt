-- What the loop of `write_row` of `src/graph.rt` keeps.
use Rattle.std.proofs.Common.{map, length, ◌+◌}
use Rattle.tn_base.specs.Sets.{has}
use Rattle.tn_graph.specs.Layout.{IsLaidOut}
use Rattle.tn_market.specs.Reduced.{reduced_arc}
use Rattle.tn_chain.proofs.RowLemmas.{IsRowTo}
use Rattle.tn_chain.proofs.graph.write_row.Given as goal

abbrev pub invariant-loop-k : goal.invariant-loop-k
invariant-loop-k g l = record {
  laid_out : IsLaidOut l.market.trades (has 0) l.graph.places;
  row : IsRowTo (reduced_arc (map g.V.Valuation.firm l.market.firms) l.market.trades l.outcome.over
      l.outcome.contracts) (length l.market.trades + 1) l.u l.k l.initial.graph l.graph;
}
