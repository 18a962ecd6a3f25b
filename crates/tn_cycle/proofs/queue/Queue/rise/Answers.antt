-- What shows the clauses of `Queue::rise` of `src/queue.rt`.
use Rattle.std.proofs.Common.{◌≡◌, ◌≢◌, ◌<◌, ◌∙◌, ℕ, List, sym, subst, arith}
use Rattle.tn_cycle.specs.Answers.{label_in}
use Rattle.tn_cycle.specs.Cells.{cell_at}
use Rattle.tn_cycle.specs.Queue.{HaveSameNodes, IsBefore, IsHeapBelow, IsQueue}
use Rattle.tn_cycle.proofs.HeapLemmas.{above_less, rise_ends, rise_next}
use Rattle.tn_cycle.proofs.QueueLemmas.{before-trans, exchanged_nodes, exchanged_queue, sized_twice}
use Rattle.tn_cycle.proofs.queue.Queue.rise.Goals as goal

pub returns-then-is_before-clause-heap : goal.returns-then-is_before-clause-heap
returns-then-is_before-clause-heap c =
    let label = label_in c.args.labels.now in
    let cell = cell_at c.args.row.now in
    rise_ends (IsBefore label cell) (before-trans label cell) c.loop-at.self.list.now c.loop-at.self.count c.place_above-above.result
    c.loop-at.at c.place_above-above.ensures (c.is_before.ensures.yes c.if-is_before.true) c.loop-at.invariant.heap

pub loop-at-preserved : goal.loop-at-preserved
loop-at-preserved c =
    let labels = c.args.labels.now in
    let row = c.args.row.now in
    let before = IsBefore (label_in labels) (cell_at row) in
    let list = c.loop-at.self.list.now in
    let places = c.loop-at.self.places.now in
    let count = c.loop-at.self.count in
    let new = c.exchange.new.self in
    let at = c.loop-at.at in
    let top = c.place_above-above.result in
    let kept = c.loop-at.invariant in
    let less : top < at = above_less top at c.place_above-above.ensures in
    let apart : top ≢ at = λ e. omega (arith, e, less) in
    let top_in : top < count = omega (arith, less, kept.inside) in
    let same_count : count ≡ new.count = sym c.exchange.ensures.count in
    record {
      inside = omega (arith, top_in, same_count);
      queue = subst (IsQueue labels row new.list.now new.places.now) same_count
          (exchanged_queue labels row list places count kept.queue top at apart top_in kept.inside kept.spaced
          new.list.now new.places.now c.exchange.ensures.list c.exchange.ensures.places);
      heap = subst (λ (n : ℕ). IsHeapBelow before new.list.now n top) same_count
          (subst (λ (l : List ℕ). IsHeapBelow before l count top) (sym c.exchange.ensures.list)
          (rise_next before (before-trans (label_in labels) (cell_at row)) list count kept.queue.room top at
          c.place_above-above.ensures kept.inside (c.is_before.ensures.no c.if-is_before.false) kept.heap));
      same = subst (HaveSameNodes c.args.self.now.list.now new.list.now) same_count
          (exchanged_nodes labels row list places count kept.queue top at apart top_in kept.inside kept.spaced
          c.args.self.now.list.now new.list.now kept.same c.exchange.ensures.list);
      spaced = omega (arith, kept.spaced, sized_twice places new.places.now _ _ _ _ c.exchange.ensures.places);
      count = sym same_count ∙ kept.count;
      list_sized = sized_twice list new.list.now _ _ _ _ c.exchange.ensures.list ∙ kept.list_sized;
      places_sized = sized_twice places new.places.now _ _ _ _ c.exchange.ensures.places ∙ kept.places_sized;
    }
