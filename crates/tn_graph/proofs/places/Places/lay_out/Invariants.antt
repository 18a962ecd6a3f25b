-- What the loop of `Places::lay_out` of `src/places.rt` keeps.
use Rattle.std.proofs.Common.{◌≡◌, map}
use Rattle.tn_graph.specs.Layout.{IsLaidTo, own_before, room_before}
use Rattle.tn_graph.proofs.places.Places.lay_out.Given as goal

abbrev pub invariant-loop-f : goal.invariant-loop-f
invariant-loop-f g l = record {
  laid : IsLaidTo (map g.V.Valuation.firm l.market.firms) l.market.trades l.on l.f 0 l.self.raised.items
      l.self.lowered.items l.self.own.items;
  start_is : l.start ≡ room_before (map g.V.Valuation.firm l.market.firms) l.f;
  own_is : l.own ≡ own_before (map g.V.Valuation.firm l.market.firms) l.f;
}
