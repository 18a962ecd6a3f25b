-- What shows the clauses of `go_on` of `src/kept.rt`.
use Rattle.std.proofs.Common.{◌≡◌, ◌≢◌, ◌<◌, ◌∙◌, ℕ, ℤ, List, length, Option, Some, set, refl, sym, ap, subst, arith, Bool, true, false, ◌&&◌, not, is_some}
use Rattle.std.proofs.lemmas.Bool.{false≢true}
use Rattle.std.proofs.lemmas.List.{get_or-set_same, get_or-set_other, length-set}
use Rattle.std.specs.Prelude.{unwrap_or}
use Rattle.tn_cycle.specs.declared.cell.Cell.{Cell}
use Rattle.tn_cycle.specs.Answers.{label_in}
use Rattle.tn_cycle.specs.Cells.{cell_at, no_cell}
use Rattle.tn_cycle.specs.Kept.{AreWaiting, IsOffered, is_ready, node_in_list}
use Rattle.tn_cycle.specs.Queue.{IsBefore}
use Rattle.tn_cycle.proofs.HeapLemmas.{lower_heap, other_heap}
use Rattle.tn_cycle.proofs.ListLemmas.{ready}
use Rattle.tn_cycle.proofs.OfferLemmas.{list_kept, list_reached}
use Rattle.tn_cycle.proofs.QueueLemmas.{before-trans, changed_key, changed_queue, forward_order, offered_room, place_of, same_order, same_waiting, some_cost}
use Rattle.tn_cycle.proofs.kept.go_on.Goals as goal

-- the better cell is offered
better_offered : (own new : Cell) (found : Option Cell) (first : Option ℤ) (beyond : Cell) (u : ℕ)
    → found ≡ Some new → IsOffered own first beyond u (unwrap_or found own) → IsOffered own first beyond u new
better_offered own new found first beyond u is offers =
    subst (λ (o : Option Cell). IsOffered own first beyond u (unwrap_or o own)) is offers

-- a node without a walk isn't ready
unready : (waits : Bool) (own : Cell) → is_some own.cost ≡ false → is_ready waits own ≡ false
unready true own none = none
unready false own none = refl

-- whether a node has its first walk
not_first : (now was : Bool) → was ≡ true → (now && not was) ≡ false
not_first true true is = refl
not_first false true is = refl
not_first now false is = absurd (false≢true is)

is_first : (now was : Bool) → now ≡ true → was ≡ false → (now && not was) ≡ true
is_first true false is none = refl
is_first true true is none = absurd (false≢true (sym none))
is_first false was is none = absurd (false≢true is)

pub returns-then-not-waits-clause-heap : goal.returns-then-not-waits-clause-heap
returns-then-not-waits-clause-heap c =
    let labels = c.args.labels.now in
    let row = c.args.row.now in
    let v = c.args.v in
    other_heap (IsBefore (label_in labels) (cell_at row))
    (IsBefore (label_in labels) (cell_at (set row v c.in-Some.new))) v c.args.queue.now.list.now c.args.queue.now.count
    (same_order labels row v c.in-Some.new c.requires.sized)
    (c.requires.unready (ap (λ (s : Bool). is_ready s (cell_at row v)) c.if-not-waits.true)) c.requires.heap

pub rise-requires-clause-queue : goal.rise-requires-clause-queue
rise-requires-clause-queue c =
    let own = cell_at c.args.row.now c.args.v in
    let offers = better_offered own c.in-Some.new c.better.result c.args.onward.first c.args.onward.beyond c.args.onward.u c.in-Some.is
    c.better.ensures.offered in
    changed_queue c.args.labels.now c.args.row.now c.args.v c.in-Some.new c.requires.sized c.args.queue.now.list.now
    c.args.queue.now.places.now c.args.queue.now.count
    (offered_room own c.args.onward.first c.args.onward.beyond c.args.onward.u c.in-Some.new offers c.requires.room c.requires.first
    c.requires.rest) c.requires.queue

pub rise-requires-clause-heap : goal.rise-requires-clause-heap
rise-requires-clause-heap c =
    let labels = c.args.labels.now in
    let row = c.args.row.now in
    let v = c.args.v in
    let list = c.args.queue.now.list.now in
    let own = cell_at row v in
    let new = c.in-Some.new in
    let offers = better_offered own new c.better.result c.args.onward.first c.args.onward.beyond c.args.onward.u c.in-Some.is
    c.better.ensures.offered in
    let cost = some_cost own.cost (sym c.is_some.ensures ∙ c.if-is_some.true) in
    let at = c.requires.ready (ready c.args.waits own cost.0 c.if-not-waits.false cost.1) in
    let place = place_of labels row list c.args.queue.now.places.now c.args.queue.now.count c.requires.queue v in
    let here : node_in_list c.args.queue.now.places.now v ≡ at.0 = place at.0 at.1 at.2 in
    lower_heap (IsBefore (label_in labels) (cell_at row)) (IsBefore (label_in labels) (cell_at (set row v new))) v list
    c.args.queue.now.count (same_order labels row v new c.requires.sized) (before-trans (label_in labels) (cell_at row))
    (forward_order labels row v new c.requires.sized cost.0 cost.1 (offers.by_own cost.0 cost.1))
    (node_in_list c.args.queue.now.places.now v) (ap (node_in_list list) here ∙ at.2) (λ i inside is. sym (place i inside is))
    c.requires.heap (omega (arith, here, at.1))

pub push-requires-clause-heap : goal.push-requires-clause-heap
push-requires-clause-heap c =
    let labels = c.args.labels.now in
    let row = c.args.row.now in
    let v = c.args.v in
    other_heap (IsBefore (label_in labels) (cell_at row))
    (IsBefore (label_in labels) (cell_at (set row v c.in-Some.new))) v c.args.queue.now.list.now c.args.queue.now.count
    (same_order labels row v c.in-Some.new c.requires.sized)
    (c.requires.unready (unready c.args.waits (cell_at row v) (sym c.is_some.ensures ∙ c.if-is_some.false)))
    c.requires.heap

pub push-requires-clause-keyed : goal.push-requires-clause-keyed
push-requires-clause-keyed c =
    let row = c.args.row.now in
    let own = cell_at row c.args.v in
    let offers = better_offered own c.in-Some.new c.better.result c.args.onward.first c.args.onward.beyond c.args.onward.u c.in-Some.is
    c.better.ensures.offered in
    changed_key c.args.labels.now row c.args.v c.in-Some.new c.requires.sized
    (offered_room own c.args.onward.first c.args.onward.beyond c.args.onward.u c.in-Some.new offers c.requires.room c.requires.first
    c.requires.rest) c.args.v
    (record {
      labelled = c.requires.labelled c.if-not-waits.false;
      inside = c.requires.sized;
      room = c.requires.room;
    })

pub returns-then-is_some-clause-listed : goal.returns-then-is_some-clause-listed
returns-then-is_some-clause-listed c nodes flag inside flag_is lists =
    let row = c.args.row.now in
    let v = c.args.v in
    let own = cell_at row v in
    let new = c.in-Some.new in
    let offers = better_offered own new c.better.result c.args.onward.first c.args.onward.beyond c.args.onward.u c.in-Some.is
    c.better.ensures.offered in
    let cost = some_cost own.cost (sym c.is_some.ensures ∙ c.if-is_some.true) in
    let was : is_ready c.args.waits own ≡ true = ready c.args.waits own cost.0 c.if-not-waits.false cost.1 in
    let kept = list_kept nodes v c.args.onward.u c.args.queue.now.count c.args.waits flag c.args.onward.first c.args.onward.beyond new row
    c.args.queue.now.list.now inside c.requires.sized flag_is offers lists
    (not_first (is_ready c.args.waits new) (is_ready c.args.waits own) was) in
    let now = λ (w : ℕ). is_ready (flag w) (cell_at (set row v new) w) in
    let risen = c.rise.new.self in
    same_waiting c.args.labels.now (set row v new) risen.list.now risen.places.now risen.count c.rise.ensures.queue
    nodes now c.args.queue.now.list.now
    (subst (AreWaiting nodes now c.args.queue.now.list.now) (sym c.rise.ensures.count) kept) c.rise.ensures.same

pub returns-else-is_some-clause-listed : goal.returns-else-is_some-clause-listed
returns-else-is_some-clause-listed c nodes flag inside flag_is lists =
    let row = c.args.row.now in
    let v = c.args.v in
    let own = cell_at row v in
    let new = c.in-Some.new in
    let offers = better_offered own new c.better.result c.args.onward.first c.args.onward.beyond c.args.onward.u c.in-Some.is
    c.better.ensures.offered in
    let over = c.better.ensures.over new c.in-Some.is in
    let now : is_ready c.args.waits new ≡ true =
    ready c.args.waits new over.cost c.if-not-waits.false over.cost_is in
    let was : is_ready c.args.waits own ≡ false =
    unready c.args.waits own (sym c.is_some.ensures ∙ c.if-is_some.false) in
    let reached = list_reached nodes v c.args.onward.u c.args.queue.now.count c.args.waits flag c.args.onward.first c.args.onward.beyond new row
    c.args.queue.now.list.now inside c.requires.sized flag_is offers lists c.requires.places
    (is_first (is_ready c.args.waits new) (is_ready c.args.waits own) now was) in
    let ready_now = λ (w : ℕ). is_ready (flag w) (cell_at (set row v new) w) in
    let pushed = c.push.new.self in
    let put_on = set c.args.queue.now.list.now c.args.queue.now.count v in
    same_waiting c.args.labels.now (set row v new) pushed.list.now pushed.places.now pushed.count c.push.ensures.queue
    nodes ready_now put_on (subst (AreWaiting nodes ready_now put_on) (sym c.push.ensures.count) reached)
    c.push.ensures.same

pub bounds-queue-v : goal.bounds-queue-v
bounds-queue-v c = omega (arith, c.requires.sized, c.requires.spaced)

pub rise-requires-clause-inside : goal.rise-requires-clause-inside
rise-requires-clause-inside c =
    let own = cell_at c.args.row.now c.args.v in
    let cost = some_cost own.cost (sym c.is_some.ensures ∙ c.if-is_some.true) in
    let at = c.requires.ready (ready c.args.waits own cost.0 c.if-not-waits.false cost.1) in
    let here : node_in_list c.args.queue.now.places.now c.args.v ≡ at.0 =
    place_of c.args.labels.now c.args.row.now c.args.queue.now.list.now c.args.queue.now.places.now c.args.queue.now.count c.requires.queue c.args.v
    at.0 at.1 at.2 in
    omega (arith, here, at.1)

pub push-requires-clause-absent : goal.push-requires-clause-absent
push-requires-clause-absent c =
    c.requires.unready (unready c.args.waits (cell_at c.args.row.now c.args.v)
    (sym c.is_some.ensures ∙ c.if-is_some.false))

pub push-requires-clause-queue : goal.push-requires-clause-queue
push-requires-clause-queue c =
    let own = cell_at c.args.row.now c.args.v in
    let offers = better_offered own c.in-Some.new c.better.result c.args.onward.first c.args.onward.beyond c.args.onward.u c.in-Some.is
    c.better.ensures.offered in
    changed_queue c.args.labels.now c.args.row.now c.args.v c.in-Some.new c.requires.sized c.args.queue.now.list.now
    c.args.queue.now.places.now c.args.queue.now.count
    (offered_room own c.args.onward.first c.args.onward.beyond c.args.onward.u c.in-Some.new offers c.requires.room c.requires.first
    c.requires.rest) c.requires.queue

pub push-requires-clause-spaced : goal.push-requires-clause-spaced
push-requires-clause-spaced c = omega (arith, c.requires.spaced, length-set c.args.row.now c.args.v c.in-Some.new)

pub returns-then-not-waits-clause-queue : goal.returns-then-not-waits-clause-queue
returns-then-not-waits-clause-queue c =
    let own = cell_at c.args.row.now c.args.v in
    let offers = better_offered own c.in-Some.new c.better.result c.args.onward.first c.args.onward.beyond c.args.onward.u c.in-Some.is
    c.better.ensures.offered in
    changed_queue c.args.labels.now c.args.row.now c.args.v c.in-Some.new c.requires.sized c.args.queue.now.list.now
    c.args.queue.now.places.now c.args.queue.now.count
    (offered_room own c.args.onward.first c.args.onward.beyond c.args.onward.u c.in-Some.new offers c.requires.room c.requires.first
    c.requires.rest) c.requires.queue

-- a node that doesn't wait has no first walk in the queue
not_ready : (waits was : Bool) (new : Cell) → waits ≡ false → (is_ready waits new && not was) ≡ false
not_ready false was new is = refl
not_ready true was new is = absurd (false≢true (sym is))

pub returns-then-not-waits-clause-listed : goal.returns-then-not-waits-clause-listed
returns-then-not-waits-clause-listed c nodes flag inside flag_is lists =
    let row = c.args.row.now in
    let v = c.args.v in
    let own = cell_at row v in
    let new = c.in-Some.new in
    let offers = better_offered own new c.better.result c.args.onward.first c.args.onward.beyond c.args.onward.u c.in-Some.is
    c.better.ensures.offered in
    list_kept nodes v c.args.onward.u c.args.queue.now.count c.args.waits flag c.args.onward.first c.args.onward.beyond new row c.args.queue.now.list.now inside
    c.requires.sized flag_is offers lists
    (not_ready c.args.waits (is_ready c.args.waits own) new c.if-not-waits.true)

pub returns-in_default-clause-listed : goal.returns-in_default-clause-listed
returns-in_default-clause-listed c nodes flag inside flag_is lists = lists

-- the cell of the node is the new one, and all others stay
module _ (own new : Cell) (row : List Cell) (v : ℕ) where
  own_new : (found : Option Cell) (first : Option ℤ) (beyond : Cell) (u : ℕ) → v < length row → found ≡ Some new
      → IsOffered own first beyond u (unwrap_or found own)
      → IsOffered own first beyond u (cell_at (set row v new) v)
  own_new found first beyond u inside is offers =
      subst (IsOffered own first beyond u) (sym (get_or-set_same row v new no_cell inside))
      (better_offered own new found first beyond u is offers)

  others_stay : (w : ℕ) → w ≢ v → cell_at (set row v new) w ≡ cell_at row w
  others_stay w off = get_or-set_other row v w new no_cell off

pub returns-then-not-waits-clause-own : goal.returns-then-not-waits-clause-own
returns-then-not-waits-clause-own c =
    own_new (cell_at c.args.row.now c.args.v) c.in-Some.new c.args.row.now c.args.v c.better.result c.args.onward.first
    c.args.onward.beyond c.args.onward.u c.requires.sized c.in-Some.is c.better.ensures.offered

pub returns-then-is_some-clause-own : goal.returns-then-is_some-clause-own
returns-then-is_some-clause-own c =
    own_new (cell_at c.args.row.now c.args.v) c.in-Some.new c.args.row.now c.args.v c.better.result c.args.onward.first
    c.args.onward.beyond c.args.onward.u c.requires.sized c.in-Some.is c.better.ensures.offered

pub returns-else-is_some-clause-own : goal.returns-else-is_some-clause-own
returns-else-is_some-clause-own c =
    own_new (cell_at c.args.row.now c.args.v) c.in-Some.new c.args.row.now c.args.v c.better.result c.args.onward.first
    c.args.onward.beyond c.args.onward.u c.requires.sized c.in-Some.is c.better.ensures.offered

pub returns-then-not-waits-clause-others : goal.returns-then-not-waits-clause-others
returns-then-not-waits-clause-others c =
    others_stay (cell_at c.args.row.now c.args.v) c.in-Some.new c.args.row.now c.args.v

pub returns-then-is_some-clause-others : goal.returns-then-is_some-clause-others
returns-then-is_some-clause-others c =
    others_stay (cell_at c.args.row.now c.args.v) c.in-Some.new c.args.row.now c.args.v

pub returns-else-is_some-clause-others : goal.returns-else-is_some-clause-others
returns-else-is_some-clause-others c =
    others_stay (cell_at c.args.row.now c.args.v) c.in-Some.new c.args.row.now c.args.v
