-- What the loop of `Graph::cut` of `src/reading.rt` keeps.
use Rattle.tn_graph.proofs.DetachLemmas.{IsCutTo}
use Rattle.tn_graph.proofs.graph.Graph.cut.Given as goal

abbrev pub invariant-loop-k : goal.invariant-loop-k
invariant-loop-k l = IsCutTo l.rises l.t l.k l.initial.self l.self
