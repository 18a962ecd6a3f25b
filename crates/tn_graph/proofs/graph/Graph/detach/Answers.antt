-- What shows the clauses of `Graph::detach` of `src/reading.rt`.
use Rattle.tn_graph.proofs.DetachLemmas.{detached}
use Rattle.tn_graph.proofs.graph.Graph.detach.Goals as goal

pub returns-clause-forgotten : goal.returns-clause-forgotten
returns-clause-forgotten c =
    detached c.args.t c.args.self.now c.turn.new.self c.cut.new.self c.cut-2.new.self c.turn.ensures.nodes
    c.turn.ensures.cells c.turn.ensures.turned c.cut.ensures c.cut-2.ensures
