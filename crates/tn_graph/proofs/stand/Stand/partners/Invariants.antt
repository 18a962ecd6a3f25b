-- What the loop of `Stand::partners` of `src/stand.rt` keeps.
use Rattle.std.proofs.Common.{◌≡◌}
use Rattle.tn_graph.specs.Reading.{partners}
use Rattle.tn_graph.proofs.stand.Stand.partners.Given as goal

abbrev pub invariant-loop-k : goal.invariant-loop-k
invariant-loop-k g l =
    l.found ≡ partners (g.V.Valuation.firm l.self.firm.now).buys l.self.bundle l.self.asked l.high l.k
