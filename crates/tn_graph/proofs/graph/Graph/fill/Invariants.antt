-- What the loops of `Graph::fill` of `src/reading.rt` keep.
use Rattle.std.proofs.Common.{◌+◌, ◌<◌, ◌≤◌, true, map, take}
use Rattle.tn_market.specs.Graph.{graph_worths}
use Rattle.tn_graph.specs.Reading.{IsRightFor}
use Rattle.tn_graph.proofs.graph.Graph.fill.Given as goal

abbrev pub invariant-loop-f : goal.invariant-loop-f
invariant-loop-f g l = record {
  right : IsRightFor (map g.V.Valuation.firm l.market.firms) l.market.trades l.on (λ v. true) (λ k. k < l.f)
      l.self;
  asked : l.steps ≤ l.initial.steps + graph_worths (take l.f (map g.V.Valuation.firm l.market.firms));
}
