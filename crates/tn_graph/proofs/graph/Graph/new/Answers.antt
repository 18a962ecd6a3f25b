-- What shows the clauses of `Graph::new` of `src/graph.rt`.
use Rattle.tn_graph.proofs.CellLemmas.{no_arcs}
use Rattle.tn_graph.proofs.graph.Graph.new.Goals as goal

pub returns : goal.returns
returns c = no_arcs _ c.room.result (c.in_ok-vec-4.ensures.items_if_clones_equal (λ y same. same))
