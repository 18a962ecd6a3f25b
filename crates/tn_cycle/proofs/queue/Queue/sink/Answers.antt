-- What shows the clauses of `Queue::sink` of `src/queue.rt`.
use Rattle.std.proofs.Common.{◌≡◌, ◌≢◌, ◌<◌, ◌∙◌, ℕ, List, refl, sym, subst, arith}
use Rattle.tn_cycle.specs.Answers.{label_in}
use Rattle.tn_cycle.specs.Cells.{cell_at}
use Rattle.tn_cycle.specs.Queue.{HaveSameNodes, IsBefore, IsFirstBelow, IsHeapAbove, IsQueue}
use Rattle.tn_cycle.proofs.HeapLemmas.{above_less, sink_end, sink_ends, sink_next}
use Rattle.tn_cycle.proofs.QueueLemmas.{before-trans, exchanged_nodes, exchanged_queue, same_nodes, sized_twice}
use Rattle.tn_cycle.proofs.queue.Queue.sink.Goals as goal

pub returns-then-is_before-clause-heap : goal.returns-then-is_before-clause-heap
returns-then-is_before-clause-heap c =
    let label = label_in c.args.labels.now in
    let cell = cell_at c.args.row.now in
    sink_ends (IsBefore label cell) (before-trans label cell) c.loop-at.self.list.now c.loop-at.self.count c.loop-at.at
    c.in-Some.below (c.first_below.ensures.some c.in-Some.below c.in-Some.is)
    (c.is_before.ensures.yes c.if-is_before.true) c.loop-at.invariant.heap

pub loop-at-preserved : goal.loop-at-preserved
loop-at-preserved c =
    let labels = c.args.labels.now in
    let row = c.args.row.now in
    let before = IsBefore (label_in labels) (cell_at row) in
    let list = c.loop-at.self.list.now in
    let places = c.loop-at.self.places.now in
    let count = c.loop-at.self.count in
    let new = c.exchange.new.self in
    let at = c.loop-at.at in
    let below = c.in-Some.below in
    let kept = c.loop-at.invariant in
    let first : IsFirstBelow before list count at below = c.first_below.ensures.some below c.in-Some.is in
    let less : at < below = above_less at below first.is in
    let apart : at ≢ below = λ e. omega (arith, e, less) in
    let at_in : at < count = omega (arith, less, first.inside) in
    let same_count : count ≡ new.count = sym c.exchange.ensures.count in
    record {
      queue = subst (IsQueue labels row new.list.now new.places.now) same_count
          (exchanged_queue labels row list places count kept.queue at below apart at_in first.inside kept.spaced
          new.list.now new.places.now c.exchange.ensures.list c.exchange.ensures.places);
      heap = subst (λ (n : ℕ). IsHeapAbove before new.list.now n below) same_count
          (subst (λ (l : List ℕ). IsHeapAbove before l count below) (sym c.exchange.ensures.list)
          (sink_next before (before-trans (label_in labels) (cell_at row)) list count kept.queue.room at below first
          (c.is_before.ensures.no c.if-is_before.false) kept.heap));
      same = subst (HaveSameNodes c.args.self.now.list.now new.list.now) same_count
          (exchanged_nodes labels row list places count kept.queue at below apart at_in first.inside kept.spaced
          c.args.self.now.list.now new.list.now kept.same c.exchange.ensures.list);
      spaced = omega (arith, kept.spaced, sized_twice places new.places.now _ _ _ _ c.exchange.ensures.places);
      count = sym same_count ∙ kept.count;
      list_sized = sized_twice list new.list.now _ _ _ _ c.exchange.ensures.list ∙ kept.list_sized;
      places_sized = sized_twice places new.places.now _ _ _ _ c.exchange.ensures.places ∙ kept.places_sized;
    }

pub bounds-self-at : goal.bounds-self-at
bounds-self-at c = omega (arith, c.loop-at-test.true, c.loop-at.invariant.queue.room)

pub bounds-self-below : goal.bounds-self-below
bounds-self-below c =
    let first = c.first_below.ensures.some c.in-Some.below c.in-Some.is in
    omega (arith, first.inside, c.loop-at.invariant.queue.room)

pub exchange-requires-clause-first : goal.exchange-requires-clause-first
exchange-requires-clause-first c = omega (arith, c.loop-at-test.true, c.loop-at.invariant.queue.room)

pub exchange-requires-clause-first_spaced : goal.exchange-requires-clause-first_spaced
exchange-requires-clause-first_spaced c =
    omega (
      arith,
      (c.loop-at.invariant.queue.keyed c.loop-at.at c.loop-at-test.true).inside,
      c.loop-at.invariant.spaced,
    )

pub exchange-requires-clause-second : goal.exchange-requires-clause-second
exchange-requires-clause-second c =
    let first = c.first_below.ensures.some c.in-Some.below c.in-Some.is in
    omega (arith, first.inside, c.loop-at.invariant.queue.room)

pub exchange-requires-clause-second_spaced : goal.exchange-requires-clause-second_spaced
exchange-requires-clause-second_spaced c =
    let first = c.first_below.ensures.some c.in-Some.below c.in-Some.is in
    omega (
      arith,
      (c.loop-at.invariant.queue.keyed c.in-Some.below first.inside).inside,
      c.loop-at.invariant.spaced,
    )

pub is_before-requires-clause-first : goal.is_before-requires-clause-first
is_before-requires-clause-first c = c.loop-at.invariant.queue.keyed c.loop-at.at c.loop-at-test.true

pub is_before-requires-clause-second : goal.is_before-requires-clause-second
is_before-requires-clause-second c =
    let first = c.first_below.ensures.some c.in-Some.below c.in-Some.is in
    c.loop-at.invariant.queue.keyed c.in-Some.below first.inside

pub loop-at-init : goal.loop-at-init
loop-at-init c = record {
  queue = c.requires.queue;
  heap = c.requires.heap;
  same = same_nodes c.args.self.now.list.now c.args.self.now.count;
  spaced = c.requires.spaced;
  count = refl;
  list_sized = refl;
  places_sized = refl;
}

pub loop-at-smaller : goal.loop-at-smaller
loop-at-smaller c =
    let first = c.first_below.ensures.some c.in-Some.below c.in-Some.is in
    let less : c.loop-at.at < c.in-Some.below = above_less c.loop-at.at c.in-Some.below first.is in
    omega (arith, less, first.inside, c.exchange.ensures.count)

pub returns-clause-heap : goal.returns-clause-heap
returns-clause-heap c =
    let label = label_in c.args.labels.now in
    let cell = cell_at c.args.row.now in
    sink_end (IsBefore label cell) (before-trans label cell) c.loop-at.self.list.now c.loop-at.self.count c.loop-at.at
    (omega (arith, c.loop-at-test.false)) c.loop-at.invariant.heap

pub returns-in_default-clause-heap : goal.returns-in_default-clause-heap
returns-in_default-clause-heap c =
    let label = label_in c.args.labels.now in
    let cell = cell_at c.args.row.now in
    sink_end (IsBefore label cell) (before-trans label cell) c.loop-at.self.list.now c.loop-at.self.count c.loop-at.at
    (c.first_below.ensures.none c.in_default.is) c.loop-at.invariant.heap
