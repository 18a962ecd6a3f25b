-- What the loop of `Places::lay_firm` of `src/places.rt` keeps.
use Rattle.std.proofs.Common.{map}
use Rattle.tn_graph.specs.Layout.{IsLaidTo}
use Rattle.tn_graph.proofs.places.Places.lay_firm.Given as goal

abbrev pub invariant-loop-position : goal.invariant-loop-position
invariant-loop-position g l =
    IsLaidTo (map g.V.Valuation.firm l.market.firms) l.market.trades l.on l.f l.position l.self.raised.items
    l.self.lowered.items l.self.own.items
