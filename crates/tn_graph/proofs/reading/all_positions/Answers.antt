-- What shows the clauses of `all_positions` of `src/reading.rt`.
use Rattle.std.proofs.Common.{◌∙◌}
use Rattle.tn_graph.proofs.StandLemmas.{all_none, all_more}
use Rattle.tn_graph.proofs.reading.all_positions.Goals as goal

pub loop-k-init : goal.loop-k-init
loop-k-init c = c.empty-all.ensures ∙ all_none

pub loop-k-preserved : goal.loop-k-preserved
loop-k-preserved c = c.toggle-all.ensures ∙ all_more c.loop-k.k c.loop-k.all c.loop-k.invariant
