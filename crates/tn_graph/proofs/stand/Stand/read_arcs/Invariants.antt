-- What the loop of `Stand::read_arcs` of `src/reading.rt` keeps.
use Rattle.std.proofs.Common.{map, true}
use Rattle.tn_graph.specs.Reading.{partners}
use Rattle.tn_graph.proofs.LineLemmas.{AreRowsRead}
use Rattle.tn_graph.proofs.stand.Stand.read_arcs.Given as goal

abbrev pub invariant-loop-k : goal.invariant-loop-k
invariant-loop-k g l =
    AreRowsRead (map g.V.Valuation.firm l.self.market.now.firms) l.self.market.now.trades l.self.on.now l.self.f
    l.self.count (g.V.Valuation.firm l.self.firm.now) l.self.bundle l.self.asked
    (partners (g.V.Valuation.firm l.self.firm.now).buys l.self.bundle l.self.asked true l.self.count)
    l.initial.graph l.initial.steps l.k l.graph l.steps
