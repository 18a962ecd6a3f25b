-- What the loops of `search_kept` of `src/kept.rt` keep.
use Rattle.std.proofs.Common.{◌+◌, ◌<◌, ◌≤◌, length}
use Rattle.tn_cycle.specs.Answers.{label_in}
use Rattle.tn_cycle.specs.Cells.{cell_at}
use Rattle.tn_cycle.specs.Kept.{IsUnderWay, flag_at}
use Rattle.tn_cycle.specs.Queue.{AreQueued}
use Rattle.tn_cycle.proofs.CountLemmas.{waiting}
use Rattle.tn_cycle.proofs.kept.search_kept.Given as goal

abbrev pub invariant-loop-settled : goal.invariant-loop-settled
invariant-loop-settled g l = record {
  known : IsUnderWay (g.C.Costs.node_count l.costs) (g.C.Costs.arc l.costs) l.end (label_in l.labels) (cell_at l.row)
      (flag_at l.waits) l.settled;
  fewer : l.settled + waiting (g.C.Costs.node_count l.costs) (flag_at l.waits) < g.C.Costs.node_count l.costs;
  queued : AreQueued (g.C.Costs.node_count l.costs) (flag_at l.waits) l.labels l.row l.queue.list.now
      l.queue.places.now l.queue.count;
  few : l.queue.count ≤ g.C.Costs.node_count l.costs;
  places : g.C.Costs.node_count l.costs ≤ length l.queue.list.now;
  spaced : length l.row ≤ length l.queue.places.now;
}
