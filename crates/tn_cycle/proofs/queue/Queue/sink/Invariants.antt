-- What the loops of `Queue::sink` of `src/queue.rt` keep.
use Rattle.std.proofs.Common.{◌≡◌, ◌-◌, ◌≤◌, length}
use Rattle.tn_cycle.specs.Answers.{label_in}
use Rattle.tn_cycle.specs.Cells.{cell_at}
use Rattle.tn_cycle.specs.Queue.{HaveSameNodes, IsBefore, IsHeapAbove, IsQueue}
use Rattle.tn_cycle.proofs.queue.Queue.sink.Given as goal

abbrev pub invariant-loop-at : goal.invariant-loop-at
invariant-loop-at l = record {
  queue : IsQueue l.labels l.row l.self.list.now l.self.places.now l.self.count;
  heap : IsHeapAbove (IsBefore (label_in l.labels) (cell_at l.row)) l.self.list.now l.self.count l.at;
  same : HaveSameNodes l.initial.self.list.now l.self.list.now l.self.count;
  spaced : length l.row ≤ length l.self.places.now;
  count : l.self.count ≡ l.initial.self.count;
  list_sized : length l.self.list.now ≡ length l.initial.self.list.now;
  places_sized : length l.self.places.now ≡ length l.initial.self.places.now;
}

-- how far the node is from the end
abbrev pub decreases-loop-at : goal.decreases-loop-at
decreases-loop-at l = l.self.count - l.at
