-- What the loops of `Graph::refresh` of `src/reading.rt` keep.
use Rattle.std.proofs.Common.{◌+◌, ◌<◌, ◌≤◌, ◌⊎◌, length, map, take}
use Rattle.tn_base.specs.Walks.{is_admitted}
use Rattle.tn_graph.specs.Reading.{IsRightFor, IsUnchanged, changed_worths_from}
use Rattle.tn_graph.proofs.graph.Graph.refresh.Given as goal

abbrev pub invariant-loop-f : goal.invariant-loop-f
invariant-loop-f g l = record {
  right : IsRightFor (map g.V.Valuation.firm l.market.firms) l.market.trades l.on
      (is_admitted (length l.market.trades) l.admitted)
      (λ k. (k < l.f) ⊎ IsUnchanged (map g.V.Valuation.firm l.market.firms) l.market.trades l.before l.on k) l.self;
  asked : l.steps ≤ l.initial.steps + changed_worths_from l.market.trades l.before l.on
      l.admitted 0
      (take l.f (map g.V.Valuation.firm l.market.firms));
}
