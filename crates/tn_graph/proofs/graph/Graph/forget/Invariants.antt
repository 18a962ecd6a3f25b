-- What the loop of `Graph::forget` of `src/reading.rt` keeps.
use Rattle.tn_graph.proofs.DetachLemmas.{AreDetached}
use Rattle.tn_graph.proofs.graph.Graph.forget.Given as goal

abbrev pub invariant-loop-t : goal.invariant-loop-t
invariant-loop-t g l = AreDetached l.market.trades l.before l.on l.t l.initial.self l.self
