-- What shows the clauses of `Queue::take_front` of `src/queue.rt`.
use Rattle.std.proofs.Common.{◌≡◌, ◌-◌, ◌<◌, ◌∙◌, ℕ, List, set, ap, sym, subst, arith}
use Rattle.tn_cycle.specs.Answers.{label_in}
use Rattle.tn_cycle.specs.Cells.{cell_at}
use Rattle.tn_cycle.specs.Kept.{node_in_list}
use Rattle.tn_cycle.specs.Queue.{HaveSameNodes, IsBefore, IsHeapAbove, IsQueue}
use Rattle.tn_cycle.proofs.HeapLemmas.{take_heap}
use Rattle.tn_cycle.proofs.QueueLemmas.{before-trans, carry, take_queue}
use Rattle.tn_cycle.proofs.queue.Queue.take_front.Goals as goal

pub put-requires-clause-spaced : goal.put-requires-clause-spaced
put-requires-clause-spaced c =
    let last : c.args.self.now.count - 1 < c.args.self.now.count = omega (arith, c.requires.some) in
    omega (arith, (c.requires.queue.keyed (c.args.self.now.count - 1) last).inside, c.requires.spaced)

pub sink-requires-clause-queue : goal.sink-requires-clause-queue
sink-requires-clause-queue c =
    let labels = c.args.labels.now in
    let row = c.args.row.now in
    let list = c.args.self.now.list.now in
    let places = c.args.self.now.places.now in
    let count = c.args.self.now.count in
    let left = count - 1 in
    let put = c.put.new.self in
    carry (IsQueue labels row) put.list.now (set list 0 (node_in_list list left)) put.places.now
    (set places (node_in_list list left) 0) put.count left c.put.ensures.list c.put.ensures.places c.put.ensures.count
    (take_queue labels row list places count c.requires.queue left (omega (arith, c.requires.some)) c.requires.spaced)

pub sink-requires-clause-heap : goal.sink-requires-clause-heap
sink-requires-clause-heap c =
    let before = IsBefore (label_in c.args.labels.now) (cell_at c.args.row.now) in
    let list = c.args.self.now.list.now in
    let count = c.args.self.now.count in
    let left = count - 1 in
    let put = c.put.new.self in
    subst (λ (l : List ℕ). IsHeapAbove before l put.count 0) (sym c.put.ensures.list)
    (subst (λ (n : ℕ). IsHeapAbove before (set list 0 (node_in_list list left)) n 0) (sym c.put.ensures.count)
    (take_heap before (before-trans (label_in c.args.labels.now) (cell_at c.args.row.now)) list count left
    (omega (arith, c.requires.some)) c.requires.heap))

pub returns-clause-same : goal.returns-clause-same
returns-clause-same c =
    let list = c.args.self.now.list.now in
    let new = c.sink.new.self in
    let left : new.count ≡ c.args.self.now.count - 1 = c.sink.ensures.count ∙ c.put.ensures.count in
    subst (λ (l : List ℕ). HaveSameNodes l new.list.now new.count)
    (c.put.ensures.list ∙ ap (λ (n : ℕ). set list 0 (node_in_list list n)) (sym left)) c.sink.ensures.same
