-- What the loops of `grow_labels` of `src/grown.rt` keep.
use Rattle.std.proofs.Common.{◌-◌, ◌*◌}
use Rattle.tn_base.specs.Walks.{arcs_among, KeepsArcs}
use Rattle.tn_cycle.specs.Answers.{AreNear, label_in}
use Rattle.tn_cycle.specs.Graphs.{is_trade_from}
use Rattle.tn_cycle.specs.Widths.{label_step, most_graph_nodes}
use Rattle.tn_cycle.proofs.grown.grow_labels.Given as goal

abbrev pub invariant-loop-first : goal.invariant-loop-first
invariant-loop-first g l = record {
  keeps : KeepsArcs (arcs_among (is_trade_from l.first l.null) (g.C.Costs.arc l.costs)) (label_in l.labels);
  near : AreNear ((l.null - l.first) * label_step most_graph_nodes) l.labels;
}
