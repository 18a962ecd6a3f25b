-- What the loops of `is_equilibrium` of `src/content.rt` keep.
use Rattle.std.proofs.Common.{◌+◌, ◌≤◌, map, pos, take}
use Rattle.tn_model.specs.Prices.{price_at}
use Rattle.tn_market.specs.Graph.{graph_worths}
use Rattle.tn_market.specs.Judged.{AreBestBefore}
use Rattle.tn_price.proofs.content.is_equilibrium.Given as goal

abbrev pub invariant-loop-f : goal.invariant-loop-f
invariant-loop-f g l = record {
  best : AreBestBefore (map g.V.Valuation.firm l.market.firms) l.market.trades (pos 1) l.at.on (price_at l.at.prices)
      l.f;
  asked : l.steps ≤ l.initial.steps + graph_worths (take l.f (map g.V.Valuation.firm l.market.firms));
}
