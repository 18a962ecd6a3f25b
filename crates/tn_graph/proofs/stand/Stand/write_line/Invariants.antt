-- What the loop of `Stand::write_line` of `src/reading.rt` keeps.
use Rattle.std.proofs.Common.{map}
use Rattle.tn_graph.specs.Reading.{IsLineRead}
use Rattle.tn_graph.proofs.stand.Stand.write_line.Given as goal

abbrev pub invariant-loop-other : goal.invariant-loop-other
invariant-loop-other g l =
    IsLineRead (map g.V.Valuation.firm l.self.market.now.firms) l.self.market.now.trades l.self.on.now l.self.f
    l.self.count l.rises l.k l.others l.initial.graph l.other l.graph
