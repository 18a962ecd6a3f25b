-- The queue of a search: which nodes it lists, at which places, and in which order they come.
use Rattle.std.proofs.Common.{◌≡◌, ◌≢◌, ℕ, ◌+◌, ◌*◌, ◌<◌, ◌≤◌, refl, sym, ap, ◌∙◌, subst, arith, inl, inr, List, length, set, ℤ, pos, ◌+ℤ◌, Option, Some, None, is_some, Bool, true}
use Rattle.std.specs.Prelude.{unwrap_or}
use Rattle.std.proofs.lemmas.Int.{ints}
use Rattle.std.proofs.lemmas.Bool.{cases_eq, false≢true}
use Rattle.std.proofs.lemmas.List.{get_or-set_same, get_or-set_other, length-set}
use Rattle.tn_base.specs.Arcs.{IsAtMost}
use Rattle.tn_base.specs.Widths.{most_cost}
use Rattle.tn_cycle.specs.declared.cell.Cell.{Cell}
use Rattle.tn_cycle.specs.Answers.{label_in}
use Rattle.tn_cycle.specs.Cells.{cell_at, no_cell}
use Rattle.tn_cycle.specs.Kept.{AreWaiting, ComesFirst, HasBy, IsNotAfter, IsOffered, cell_by, every, label_by, node_in_list}
use Rattle.tn_cycle.specs.Queue.{HasKey, HaveSameNodes, IsBefore, IsHeap, IsQueue, key_of}
use Rattle.tn_cycle.specs.Widths.{most_label, most_walk_cost}
use Rattle.tn_cycle.proofs.HeapLemmas.{at_first, at_others, at_second, exchanged, front_first}
use Rattle.tn_cycle.proofs.KeyLemmas.{not_after-trans, not_after_itself}
use Rattle.tn_cycle.proofs.OrderLemmas.{parts}

pub before_itself : (label : ℕ → ℤ) (cell : ℕ → Cell) (v : ℕ) → IsBefore label cell v v
before_itself label cell v = not_after_itself (key_of label cell v) (cell v).inner_nodes

pub before-trans : (label : ℕ → ℤ) (cell : ℕ → Cell) (u v w : ℕ) → IsBefore label cell u v → IsBefore label cell v w
    → IsBefore label cell u w
before-trans label cell u v w =
    not_after-trans (key_of label cell u) (cell u).inner_nodes (key_of label cell v) (cell v).inner_nodes (key_of label cell w)
    (cell w).inner_nodes

-- lists with the same nodes
pub same_nodes : (list : List ℕ) (count : ℕ) → HaveSameNodes list list count
same_nodes list count = record { from = λ i inside. (i, inside, refl); to = λ i inside. (i, inside, refl) }

same_nodes-trans : (list middle new : List ℕ) (count : ℕ) → HaveSameNodes list middle count
    → HaveSameNodes middle new count
    → HaveSameNodes list new count
same_nodes-trans list middle new count one two = record {
  from = λ i inside.
      let second = two.from i inside in
      let first = one.from second.0 second.1 in
      (first.0, first.1, first.2 ∙ second.2);
  to = λ i inside.
      let first = one.to i inside in
      let second = two.to first.0 first.1 in
      (second.0, second.1, second.2 ∙ first.2);
}

module _ (labels : List ℤ) (row : List Cell) (list places : List ℕ) (count : ℕ)
    (queue : IsQueue labels row list places count) where
  -- no node is listed twice
  pub listed_once : (i k : ℕ) → i < count → k < count → node_in_list list i ≡ node_in_list list k → i ≡ k
  listed_once i k i_in k_in same = sym (queue.placed i i_in) ∙ ap (node_in_list places) same ∙ queue.placed k k_in

  -- where a node stands is written down
  pub place_of : (v i : ℕ) → i < count → node_in_list list i ≡ v → node_in_list places v ≡ i
  place_of v i inside is = ap (node_in_list places) (sym is) ∙ queue.placed i inside

  -- the nodes that wait are listed, whatever the order
  pub same_waiting : (nodes : ℕ) (waits : ℕ → Bool) (first : List ℕ) → AreWaiting nodes waits first count
      → HaveSameNodes first list count → AreWaiting nodes waits list count
  same_waiting nodes waits first lists same = record {
    each = λ i inside.
        let had = same.from i inside in
        subst (λ (v : ℕ). (v < nodes) × (waits v ≡ true)) had.2 (lists.each had.0 had.1);
    all = λ v within waiting.
        let at = lists.all v within waiting in
        let has = same.to at.0 at.1 in
        (has.0, has.1, has.2 ∙ at.2);
    once = listed_once;
  }

  -- two places change their nodes
  module _ (i k : ℕ) (apart : i ≢ k) (i_in : i < count) (k_in : k < count)
      (spaced : length row ≤ length places) where
    abbrev moved : List ℕ
    moved = set (set places (node_in_list list k) i) (node_in_list list i) k

    here : (j : ℕ) → j ≡ k → node_in_list (exchanged list i k) j ≡ node_in_list list i
    here = at_second list i k apart (omega (arith, i_in, queue.room)) (omega (arith, k_in, queue.room))

    there : (j : ℕ) → j ≡ i → node_in_list (exchanged list i k) j ≡ node_in_list list k
    there = at_first list i k apart (omega (arith, i_in, queue.room)) (omega (arith, k_in, queue.room))

    else : (j : ℕ) → j ≢ i → j ≢ k → node_in_list (exchanged list i k) j ≡ node_in_list list j
    else = at_others list i k apart (omega (arith, i_in, queue.room)) (omega (arith, k_in, queue.room))

    -- where a node's place is then, by its place before
    now_second : node_in_list moved (node_in_list list i) ≡ k
    now_second =
        get_or-set_same (set places (node_in_list list k) i) (node_in_list list i) k 0
        (omega (arith, (queue.keyed i i_in).inside, spaced, length-set places (node_in_list list k) i))

    now_first : node_in_list moved (node_in_list list k) ≡ i
    now_first =
        get_or-set_other (set places (node_in_list list k) i) (node_in_list list i) (node_in_list list k) k 0
        (λ e. apart (sym (listed_once k i k_in i_in e)))
        ∙ get_or-set_same places (node_in_list list k) i 0 (omega (arith, (queue.keyed k k_in).inside, spaced))

    now_other : (j : ℕ) → j < count → j ≢ i → j ≢ k → node_in_list moved (node_in_list list j) ≡ j
    now_other j inside off_first off_second =
        get_or-set_other (set places (node_in_list list k) i) (node_in_list list i) (node_in_list list j) k 0
        (λ e. off_first (listed_once j i inside i_in e))
        ∙ get_or-set_other places (node_in_list list k) (node_in_list list j) i 0
        (λ e. off_second (listed_once j k inside k_in e))
        ∙ queue.placed j inside

    by_place : (P : ℕ → ℕ → Type 0) → P i (node_in_list list k) → P k (node_in_list list i)
        → ((j : ℕ) → j < count → j ≢ i → j ≢ k → P j (node_in_list list j))
        → (j : ℕ) → j < count → P j (node_in_list (exchanged list i k) j)
    by_place P first second others j inside = elim (cases_eq j k) [
      | inl is_second ↦
          subst (P j) (sym (here j is_second)) (subst (λ (z : ℕ). P z (node_in_list list i)) (sym is_second) second)
      | inr off_second ↦ elim (cases_eq j i) [
        | inl is_first ↦
            subst (P j) (sym (there j is_first)) (subst (λ (z : ℕ). P z (node_in_list list k)) (sym is_first) first)
        | inr off_first ↦
            subst (P j) (sym (else j off_first off_second)) (others j inside off_first off_second)
      ]
    ]

    exchange_queue : IsQueue labels row (exchanged list i k) moved count
    exchange_queue = record {
      room = omega (
        arith,
        queue.room,
        length-set (set list i (node_in_list list k)) k (node_in_list list i),
        length-set list i (node_in_list list k),
      );
      keyed = by_place (λ _ v. HasKey labels row v) (queue.keyed k k_in) (queue.keyed i i_in)
          (λ j inside _ _. queue.keyed j inside);
      placed = by_place (λ j v. node_in_list moved v ≡ j) now_first now_second now_other;
    }

    exchange_nodes : HaveSameNodes list (exchanged list i k) count
    exchange_nodes = record {
      from = by_place (λ _ v. (h : ℕ) × (h < count) × (node_in_list list h ≡ v)) (k, k_in, refl) (i, i_in, refl)
          (λ j inside _ _. (j, inside, refl));
      to = λ j inside. elim (cases_eq j k) [
        | inl is_second ↦ (i, i_in, there i refl ∙ ap (node_in_list list) (sym is_second))
        | inr off_second ↦ elim (cases_eq j i) [
          | inl is_first ↦ (k, k_in, here k refl ∙ ap (node_in_list list) (sym is_first))
          | inr off_first ↦ (j, inside, else j off_first off_second)
        ]
      ];
    }

    -- what a call that exchanges them leaves
    pub exchanged_queue : (new_list new_places : List ℕ) → new_list ≡ exchanged list i k
        → new_places ≡ set (set places (node_in_list list k) i) (node_in_list list i) k
        → IsQueue labels row new_list new_places count
    exchanged_queue new_list new_places list_is places_is =
        subst (λ (l : List ℕ). IsQueue labels row l new_places count) (sym list_is)
        (subst (λ (p : List ℕ). IsQueue labels row (exchanged list i k) p count) (sym places_is) exchange_queue)

    pub exchanged_nodes : (first new_list : List ℕ) → HaveSameNodes first list count → new_list ≡ exchanged list i k
        → HaveSameNodes first new_list count
    exchanged_nodes first new_list same list_is =
        subst (λ (l : List ℕ). HaveSameNodes first l count) (sym list_is)
        (same_nodes-trans first list (exchanged list i k) count same exchange_nodes)

  -- a node comes to the end
  pub push_queue : (v : ℕ) → HasKey labels row v → ((i : ℕ) → i < count → node_in_list list i ≢ v) → count < length list
      → length row ≤ length places → IsQueue labels row (set list count v) (set places v count) (count + 1)
  push_queue v has absent room spaced = record {
    room = omega (arith, room, length-set list count v);
    keyed = λ i inside. elim (cases_eq i count) [
      | inl last ↦ subst (HasKey labels row) (sym (at_last i last)) has
      | inr other ↦ subst (HasKey labels row) (sym (at_other i other)) (queue.keyed i (omega (arith, inside, other)))
    ];
    placed = λ i inside. elim (cases_eq i count) [
      | inl last ↦
          ap (node_in_list (set places v count)) (at_last i last)
          ∙ get_or-set_same places v count 0 (omega (arith, has.inside, spaced)) ∙ sym last
      | inr other ↦
          let earlier : i < count = omega (arith, inside, other) in
          ap (node_in_list (set places v count)) (at_other i other)
          ∙ get_or-set_other places v (node_in_list list i) count 0 (absent i earlier) ∙ queue.placed i earlier
    ];
  }
    where
      at_last : (i : ℕ) → i ≡ count → node_in_list (set list count v) i ≡ v
      at_last i last = ap (node_in_list (set list count v)) last ∙ get_or-set_same list count v 0 room

      at_other : (i : ℕ) → i ≢ count → node_in_list (set list count v) i ≡ node_in_list list i
      at_other i other = get_or-set_other list count i v 0 other

  -- the front is taken, and the last node comes there
  pub take_queue : (rest : ℕ) → count ≡ rest + 1 → length row ≤ length places
      → IsQueue labels row (set list 0 (node_in_list list rest)) (set places (node_in_list list rest) 0) rest
  take_queue rest counted spaced = record {
    room = omega (arith, queue.room, counted, length-set list 0 (node_in_list list rest));
    keyed = λ i inside. elim (cases_eq i 0) [
      | inl front ↦ subst (HasKey labels row) (sym (at_front i front)) (queue.keyed rest (omega (arith, counted)))
      | inr other ↦
          subst (HasKey labels row) (sym (at_other i other)) (queue.keyed i (omega (arith, inside, counted)))
    ];
    placed = λ i inside. elim (cases_eq i 0) [
      | inl front ↦
          ap (node_in_list (set places (node_in_list list rest) 0)) (at_front i front)
          ∙ get_or-set_same places (node_in_list list rest) 0 0
          (omega (arith, (queue.keyed rest (omega (arith, counted))).inside, spaced)) ∙ sym front
      | inr other ↦
          ap (node_in_list (set places (node_in_list list rest) 0)) (at_other i other)
          ∙ get_or-set_other places (node_in_list list rest) (node_in_list list i) 0 0
          (λ e. let q : i ≡ rest = listed_once i rest (omega (arith, inside, counted)) (omega (arith, counted)) e in
          omega (arith, q, inside))
          ∙ queue.placed i (omega (arith, inside, counted))
    ];
  }
    where
      at_front : (i : ℕ) → i ≡ 0 → node_in_list (set list 0 (node_in_list list rest)) i ≡ node_in_list list rest
      at_front i front = ap (node_in_list (set list 0 (node_in_list list rest))) front
          ∙ get_or-set_same list 0 (node_in_list list rest) 0 (omega (arith, queue.room, counted))

      at_other : (i : ℕ) → i ≢ 0 → node_in_list (set list 0 (node_in_list list rest)) i ≡ node_in_list list i
      at_other i other = get_or-set_other list 0 i (node_in_list list rest) 0 other

-- a cell that goes on has room for its key still
pub offered_room : (own : Cell) (first : Option ℤ) (beyond : Cell) (u : ℕ) (new : Cell)
    → IsOffered own first beyond u new
    → ((x : ℤ) → own.cost ≡ Some x → IsAtMost x (2 * most_walk_cost))
    → ((x : ℤ) → first ≡ Some x → IsAtMost x most_cost)
    → ((x : ℤ) → beyond.cost ≡ Some x → IsAtMost x most_walk_cost)
    → (x : ℤ) → new.cost ≡ Some x → IsAtMost x (2 * most_walk_cost)
offered_room own first beyond u new offers own_room arc_small beyond_room x is = elim offers.step [
  | inl kept ↦ own_room x (sym (ap (λ (c : Cell). c.cost) kept) ∙ is)
  | inr over ↦
      let two = parts first beyond.cost x (over.sum ∙ sym over.cost_is ∙ is) in
      let one = arc_small two.first two.first_is in
      let rest = beyond_room two.second two.second_is in
      record {
        low = omega (arith, ints, one.low, rest.low, two.sum_is);
        high = omega (arith, ints, one.high, rest.high, two.sum_is);
      }
]

-- a cost that is there
pub some_cost : (o : Option ℤ) → is_some o ≡ true → (x : ℤ) × (o ≡ Some x)
some_cost None is = absurd (false≢true is)
some_cost (Some x) is = (x, refl)

-- one node's cell is another one
module _ (labels : List ℤ) (row : List Cell) (v : ℕ) (new : Cell) (v_in : v < length row) where
  abbrev changed : List Cell
  changed = set row v new

  cell_here : cell_at changed v ≡ new
  cell_here = get_or-set_same row v new no_cell v_in

  cell_there : (w : ℕ) → w ≢ v → cell_at changed w ≡ cell_at row w
  cell_there w off = get_or-set_other row v w new no_cell off

  pub changed_key : ((x : ℤ) → new.cost ≡ Some x → IsAtMost x (2 * most_walk_cost)) → (w : ℕ) → HasKey labels row w
      → HasKey labels changed w
  changed_key room w has = record {
    labelled = has.labelled;
    inside = omega (arith, has.inside, length-set row v new);
    room = elim (cases_eq w v) [
      | inl here ↦
          λ x is. room x (sym (ap (λ (c : Cell). c.cost) (ap (cell_at changed) here ∙ cell_here)) ∙ is)
      | inr off ↦ λ x is. has.room x (sym (ap (λ (c : Cell). c.cost) (cell_there w off)) ∙ is)
    ];
  }

  pub changed_queue : (list places : List ℕ) (count : ℕ)
      → ((x : ℤ) → new.cost ≡ Some x → IsAtMost x (2 * most_walk_cost)) → IsQueue labels row list places count
      → IsQueue labels changed list places count
  changed_queue list places count room queue = record {
    room = queue.room;
    keyed = λ i inside. changed_key room (node_in_list list i) (queue.keyed i inside);
    placed = queue.placed;
  }

  -- the order of the others stays
  pub same_order : (u w : ℕ) → u ≢ v → w ≢ v → IsBefore (label_in labels) (cell_at row) u w
      → IsBefore (label_in labels) (cell_at changed) u w
  same_order u w u_off w_off known =
      subst (λ (c : Cell). IsNotAfter (unwrap_or c.cost (pos 0) +ℤ label_in labels u) c.inner_nodes
      (key_of (label_in labels) (cell_at changed) w) (cell_at changed w).inner_nodes) (sym (cell_there u u_off))
      (subst (λ (c : Cell). IsNotAfter (key_of (label_in labels) (cell_at row) u) (cell_at row u).inner_nodes
      (unwrap_or c.cost (pos 0) +ℤ label_in labels w) c.inner_nodes) (sym (cell_there w w_off)) known)

  -- the node itself comes earlier, where its walk is better
  pub forward_order : (x : ℤ) → (cell_at row v).cost ≡ Some x → HasBy new x (cell_at row v).inner_nodes → (w : ℕ) → w ≢ v
      → IsBefore (label_in labels) (cell_at row) v w → IsBefore (label_in labels) (cell_at changed) v w
  forward_order x is has w w_off known =
      let was : unwrap_or (cell_at row v).cost (pos 0) ≡ x = ap (λ (o : Option ℤ). unwrap_or o (pos 0)) is in
      let now : unwrap_or new.cost (pos 0) ≡ has.least = ap (λ (o : Option ℤ). unwrap_or o (pos 0)) has.is in
      let earlier : IsNotAfter (unwrap_or new.cost (pos 0) +ℤ label_in labels v) new.inner_nodes
      (key_of (label_in labels) (cell_at row) v) (cell_at row v).inner_nodes = (
        omega (arith, ints, was, now, has.before.0),
        λ back. has.before.1 (omega (arith, ints, was, now, back)),
      ) in
      let both_ways : IsNotAfter (unwrap_or new.cost (pos 0) +ℤ label_in labels v) new.inner_nodes
      (key_of (label_in labels) (cell_at row) w) (cell_at row w).inner_nodes =
      not_after-trans (unwrap_or new.cost (pos 0) +ℤ label_in labels v) new.inner_nodes
      (key_of (label_in labels) (cell_at row) v) (cell_at row v).inner_nodes (key_of (label_in labels) (cell_at row) w)
      (cell_at row w).inner_nodes earlier known in
      subst (λ (c : Cell). IsNotAfter (unwrap_or c.cost (pos 0) +ℤ label_in labels v) c.inner_nodes
      (key_of (label_in labels) (cell_at changed) w) (cell_at changed w).inner_nodes) (sym cell_here)
      (subst (λ (c : Cell). IsNotAfter (unwrap_or new.cost (pos 0) +ℤ label_in labels v) new.inner_nodes
      (unwrap_or c.cost (pos 0) +ℤ label_in labels w) c.inner_nodes) (sym (cell_there w w_off)) both_ways)

-- the front of the queue is the listed node that comes first
pub front_comes : (label : ℕ → ℤ) (cell : ℕ → Cell) (list : List ℕ) (count : ℕ) (cost : ℤ) → 0 < count
    → (cell (node_in_list list 0)).cost ≡ Some cost
    → IsHeap (IsBefore label cell) list count
    → ComesFirst count (label_by label list) (cell_by cell list) every 0 (cost +ℤ label (node_in_list list 0))
    (cell (node_in_list list 0)).inner_nodes
front_comes label cell list count cost some is heap = record {
  inside = some;
  waiting = refl;
  cost = cost;
  cost_is = is;
  key_is = refl;
  inner_nodes_is = refl;
  first = λ i w inside _ w_is.
      let ordered =
      front_first (IsBefore label cell) (before-trans label cell) list count (before_itself label cell) heap i inside
      in
      let own : unwrap_or (cell (node_in_list list 0)).cost (pos 0) ≡ cost =
      ap (λ (o : Option ℤ). unwrap_or o (pos 0)) is in
      let other : unwrap_or (cell (node_in_list list i)).cost (pos 0) ≡ w =
      ap (λ (o : Option ℤ). unwrap_or o (pos 0)) w_is in (
        omega (arith, ints, own, other, ordered.0),
        λ back. ordered.1 (omega (arith, ints, own, other, back)),
      );
}

-- the key of a node that has one is far from the limits of its type
pub key_small : (labels : List ℤ) (row : List Cell) (v : ℕ) (cost : ℤ) → (cell_at row v).cost ≡ Some cost
    → HasKey labels row v → IsAtMost (label_in labels v) (2 * most_label)
    → IsAtMost (key_of (label_in labels) (cell_at row) v) (4 * most_label)
key_small labels row v cost is has near =
    let small = has.room cost is in
    let own : unwrap_or (cell_at row v).cost (pos 0) ≡ cost = ap (λ (o : Option ℤ). unwrap_or o (pos 0)) is in
    record {
      low = omega (arith, ints, own, small.low, near.low);
      high = omega (arith, ints, own, small.high, near.high);
    }

-- a list of which two places were written is as long as before
pub sized_twice : (list new : List ℕ) (i k u v : ℕ) → new ≡ set (set list i u) k v → length new ≡ length list
sized_twice list new i k u v is = ap length is ∙ length-set (set list i u) k v ∙ length-set list i u

-- what holds of a list, places and a count holds of those that are the same
pub carry : (P : List ℕ → List ℕ → ℕ → Type 0) (list new_list places new_places : List ℕ) (count new_count : ℕ)
    → list ≡ new_list → places ≡ new_places → count ≡ new_count → P new_list new_places new_count → P list places count
carry P list new_list places new_places count new_count list_is places_is count_is known =
    subst (λ (l : List ℕ). P l places count) (sym list_is)
    (subst (λ (p : List ℕ). P new_list p count) (sym places_is) (subst (P new_list new_places) (sym count_is) known))
