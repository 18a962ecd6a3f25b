-- What the loops of `offer` of `src/kept.rt` keep.
use Rattle.std.proofs.Common.{◌≡◌, length}
use Rattle.tn_cycle.specs.Cells.{cell_at}
use Rattle.tn_cycle.specs.Kept.{flag_at}
use Rattle.tn_cycle.specs.Queue.{AreQueued}
use Rattle.tn_cycle.proofs.OfferLemmas.{AreAfter, ArePassed}
use Rattle.tn_cycle.proofs.kept.offer.Given as goal

abbrev pub invariant-loop-k : goal.invariant-loop-k
invariant-loop-k g l = record {
  after : AreAfter (g.C.Costs.arc l.costs) l.end l.u l.beyond (flag_at l.waits)
      (g.C.Costs.predecessor_at l.costs l.u) (cell_at l.initial.row) (cell_at l.row) l.k;
  passed : ArePassed (g.C.Costs.arc l.costs) l.end l.u l.beyond (flag_at l.waits)
      (g.C.Costs.predecessor_at l.costs l.u) (cell_at l.initial.row) (cell_at l.row) l.k;
  queued : AreQueued (g.C.Costs.node_count l.costs) (flag_at l.waits) l.labels l.row l.queue.list.now
      l.queue.places.now l.queue.count;
  list_sized : length l.queue.list.now ≡ length l.initial.queue.list.now;
  places_sized : length l.queue.places.now ≡ length l.initial.queue.places.now;
}
