-- What the loops of `list_waiting` of `src/kept.rt` keep.
use Rattle.std.proofs.Common.{◌≡◌, ◌≤◌, length}
use Rattle.tn_cycle.specs.Kept.{flag_at}
use Rattle.tn_cycle.specs.Queue.{AreQueued}
use Rattle.tn_cycle.proofs.kept.list_waiting.Given as goal

abbrev pub invariant-loop-v : goal.invariant-loop-v
invariant-loop-v l = record {
  queued : AreQueued l.v (flag_at l.waits) l.labels l.row l.queue.list.now l.queue.places.now
      l.queue.count;
  few : l.queue.count ≤ l.v;
  spaced : length l.row ≤ length l.queue.places.now;
  list_sized : length l.queue.list.now ≡ length l.initial.queue.list.now;
  places_sized : length l.queue.places.now ≡ length l.initial.queue.places.now;
}
