-- What shows the clauses of `list_waiting` of `src/kept.rt`.
use Rattle.std.proofs.Common.{◌+◌, ◌∙◌, ℕ, ap, sym, subst, length, set, arith}
use Rattle.tn_cycle.specs.declared.queue.Queue.{Queue}
use Rattle.tn_cycle.specs.Cells.{cell_at}
use Rattle.tn_cycle.specs.Kept.{AreWaiting, flag_at, is_ready}
use Rattle.tn_cycle.specs.Queue.{AreQueued}
use Rattle.tn_cycle.proofs.ListLemmas.{put_on, waiting_more}
use Rattle.tn_cycle.proofs.QueueLemmas.{same_waiting}
use Rattle.tn_cycle.proofs.kept.list_waiting.Goals.{then-is_ready, else-is_ready}
use Rattle.tn_cycle.proofs.kept.list_waiting.Goals as goal

pub loop-v-preserved : goal.loop-v-preserved
loop-v-preserved c =
    let labels = c.args.labels.now in
    let row = c.args.row.now in
    let v = c.loop-v.v in
    let count = c.loop-v.queue.count in
    let list = c.loop-v.queue.list.now in
    let kept = c.loop-v.invariant in
    let flag = flag_at c.args.waits.now in
    let ready = λ (u : ℕ). is_ready (flag u) (cell_at row u) in
    let queued = λ (q : Queue). AreQueued (v + 1) flag labels row q.list.now q.places.now q.count in
    elim c.if-is_ready.branch [
      | then-is_ready w ↦
          let pushed = w.push.new.self in
          let listed : AreWaiting (v + 1) ready (set list count v) (count + 1) =
          put_on v (v + 1) ready ready list count v kept.queued.listed
          (λ u within is. (omega (arith, within), is, λ e. omega (arith, e, within)))
          (λ u within is off. (omega (arith, within, off), is)) (omega arith)
          (sym c.is_ready.ensures ∙ w.if-is_ready.true)
          (omega (arith, kept.few, c.requires.places, c.loop-v-test.true, kept.list_sized)) in
          record {
            queued = subst queued (sym w.queue-is) (record {
              listed = same_waiting labels row pushed.list.now pushed.places.now pushed.count w.push.ensures.queue
                  (v + 1) ready (set list count v)
                  (subst (AreWaiting (v + 1) ready (set list count v)) (sym w.push.ensures.count) listed)
                  w.push.ensures.same;
              queue = w.push.ensures.queue;
              heap = w.push.ensures.heap;
            });
            few = omega (arith, ap (λ (q : Queue). q.count) w.queue-is, w.push.ensures.count, kept.few);
            spaced = omega (
              arith,
              ap (λ (q : Queue). length q.places.now) w.queue-is,
              w.push.ensures.places_sized,
              kept.spaced,
            );
            list_sized = ap (λ (q : Queue). length q.list.now) w.queue-is ∙ w.push.ensures.list_sized
                ∙ kept.list_sized;
            places_sized = ap (λ (q : Queue). length q.places.now) w.queue-is ∙ w.push.ensures.places_sized
                ∙ kept.places_sized;
          }
      | else-is_ready w ↦
          record {
            queued = subst queued (sym w.queue-is) (record {
              listed = waiting_more v ready list count kept.queued.listed
                  (sym c.is_ready.ensures ∙ w.if-is_ready.false);
              queue = kept.queued.queue;
              heap = kept.queued.heap;
            });
            few = omega (arith, ap (λ (q : Queue). q.count) w.queue-is, kept.few);
            spaced = omega (arith, ap (λ (q : Queue). length q.places.now) w.queue-is, kept.spaced);
            list_sized = ap (λ (q : Queue). length q.list.now) w.queue-is ∙ kept.list_sized;
            places_sized = ap (λ (q : Queue). length q.places.now) w.queue-is ∙ kept.places_sized;
          }
    ]
