-- What shows the clauses of `search_kept` of `src/kept.rt`.
use Rattle.std.proofs.Common.{◌≡◌, ◌≢◌, ◌+◌, ◌-◌, ◌*◌, ◌<◌, ◌∙◌, ℕ, zero, suc, ℤ, ◌+ℤ◌, ◌-ℤ◌, List, [], ◌∷◌, set, refl, sym, ap, subst, arith, rules, inl, inr, Bool, true, false, is_some, length}
use Rattle.std.proofs.lemmas.Int.{ints, to_z-of_z}
use Rattle.std.proofs.lemmas.Bool.{cases_eq, false≢true}
use Rattle.std.proofs.lemmas.List.{get_or-set_same, get_or-set_other, length-set}
use mir.Syntax.{w128}
use mir.Val.{SFits}
use Rattle.tn_base.specs.Arcs.{IsAtMost}
use Rattle.tn_cycle.specs.declared.kept.Sought.{Sought}
use Rattle.tn_cycle.specs.declared.cell.Cell.{Cell}
use Rattle.tn_cycle.specs.Answers.{AreNear, label_in}
use Rattle.tn_cycle.specs.Cells.{cell_at}
use Rattle.tn_cycle.specs.Kept.{AllArePast, AreReady, AreWaiting, ComesFirst, IsPast, cell_by, every, flag_at, is_ready, label_by, node_in_list}
use Rattle.tn_cycle.specs.Queue.{AreQueued}
use Rattle.tn_cycle.specs.Widths.{most_label}
use Rattle.tn_cycle.proofs.CellLemmas.{led_room}
use Rattle.tn_cycle.proofs.CountLemmas.{ready_fewer, waiting, waiting_fewer, waiting_less}
use Rattle.tn_cycle.proofs.KeptLemmas.{begun, known_next}
use Rattle.tn_cycle.proofs.ListLemmas.{listed_first, ready, taken_out}
use Rattle.tn_cycle.proofs.QueueLemmas.{same_waiting}
use Rattle.tn_cycle.proofs.kept.search_kept.Goals as goal

pub loop-settled-init : goal.loop-settled-init
loop-settled-init g c =
    let nodes = g.C.Costs.node_count c.args.costs.now in
    let fewer : waiting nodes (flag_at c.args.waits.now) < nodes =
    waiting_fewer nodes (flag_at c.args.waits.now) c.args.end c.requires.inside c.requires.shut in
    let queued : AreQueued nodes (flag_at c.args.waits.now) c.args.labels.now c.begin.new.row
    c.list_waiting.new.queue.list.now c.list_waiting.new.queue.places.now c.list_waiting.new.queue.count =
    subst (λ (n : ℕ). AreQueued n (flag_at c.args.waits.now) c.args.labels.now c.begin.new.row
    c.list_waiting.new.queue.list.now c.list_waiting.new.queue.places.now c.list_waiting.new.queue.count)
    c.nodes-nodes.ensures c.list_waiting.ensures.queued in
    record {
      known = begun nodes (g.C.Costs.arc c.args.costs.now) c.args.end (label_in c.args.labels.now)
          (cell_at c.begin.new.row) (flag_at c.args.waits.now)
          (g.met.C.Costs.between_nodes c.args.costs.now) c.requires.shut c.requires.begins c.requires.passes
          c.begin.ensures;
      fewer = omega (arith, fewer);
      queued = queued;
      few = omega (
        arith,
        ready_fewer nodes (flag_at c.args.waits.now) (cell_at c.begin.new.row)
            c.list_waiting.new.queue.list.now c.list_waiting.new.queue.count c.args.end queued.listed c.requires.inside
            c.requires.shut,
      );
      places = omega (arith, c.requires.places, c.list_waiting.ensures.list_sized);
      spaced = omega (arith, c.requires.spaced, c.begin.auto.row, c.list_waiting.ensures.places_sized);
    }

-- a node that waits isn't the end, so that it has a label
labelled_off : (end nodes places : ℕ) (waits : ℕ → Bool) → waits end ≡ false
    → ((v : ℕ) → v < nodes → v ≢ end → v < places) → (v : ℕ) → v < nodes → waits v ≡ true → v < places
labelled_off end nodes places waits shut all v inside waiting =
    all v inside (λ e. false≢true (sym shut ∙ subst (λ (z : ℕ). waits z ≡ true) e waiting))

pub list_waiting-requires-clause-labelled : goal.list_waiting-requires-clause-labelled
list_waiting-requires-clause-labelled g c v inside waiting =
    labelled_off c.args.end (g.C.Costs.node_count c.args.costs.now) (length c.args.labels.now)
    (flag_at c.args.waits.now) c.requires.shut c.requires.labelled v (omega (arith, inside, c.nodes-nodes.ensures))
    waiting

pub list_waiting-requires-clause-room : goal.list_waiting-requires-clause-room
list_waiting-requires-clause-room g c v inside x is =
    let begun = c.begin.ensures v (omega (arith, inside, c.nodes-nodes.ensures)) in
    let small = g.met.C.Costs.small c.args.costs.now v c.args.end x (sym (ap (λ (own : Cell). own.cost) begun) ∙ is) in
    record { low = omega (arith, ints, small.low); high = omega (arith, ints, small.high) }

pub front_counts-requires-clause-keyed : goal.front_counts-requires-clause-keyed
front_counts-requires-clause-keyed g c = c.loop-settled.invariant.queued.queue.keyed

pub front_counts-requires-clause-heap : goal.front_counts-requires-clause-heap
front_counts-requires-clause-heap g c = c.loop-settled.invariant.queued.heap

pub take_front-requires-clause-few : goal.take_front-requires-clause-few
take_front-requires-clause-few g c =
    let first = c.front_counts.ensures.yes c.if-not-front_counts.false in
    omega (arith, c.loop-settled.invariant.few, first.2.inside, c.requires.few)

pub take_front-requires-clause-some : goal.take_front-requires-clause-some
take_front-requires-clause-some g c =
    let first = c.front_counts.ensures.yes c.if-not-front_counts.false in
    omega (arith, first.2.inside)

pub take_front-requires-clause-queue : goal.take_front-requires-clause-queue
take_front-requires-clause-queue g c = c.loop-settled.invariant.queued.queue

pub take_front-requires-clause-heap : goal.take_front-requires-clause-heap
take_front-requires-clause-heap g c = c.loop-settled.invariant.queued.heap

-- the flags once one is taken down
module _ (waits : List Bool) (u : ℕ) (inside : u < length waits) where
  pub closed : flag_at (set waits u false) u ≡ false
  closed = get_or-set_same waits u false false inside

  pub left : (v : ℕ) → v ≢ u → flag_at (set waits u false) v ≡ flag_at waits v
  left v other = get_or-set_other waits u v false false other

  pub still_shut : (v : ℕ) → flag_at waits v ≡ false → flag_at (set waits u false) v ≡ false
  still_shut v shut = elim (cases_eq v u) [
    | inl same ↦ subst (λ (z : ℕ). flag_at (set waits u false) z ≡ false) (sym same) closed
    | inr other ↦ left v other ∙ shut
  ]

pub offer-requires-clause-labelled : goal.offer-requires-clause-labelled
offer-requires-clause-labelled g c v inside waiting =
    let nodes = g.C.Costs.node_count c.args.costs.now in
    let first = c.front_counts.ensures.yes c.if-not-front_counts.false in
    let u = node_in_list c.loop-settled.queue.list.now 0 in
    let own : u < nodes = (c.loop-settled.invariant.queued.listed.each 0 first.2.inside).0 in
    let within : u < length c.loop-settled.waits = omega (
      arith,
      own,
      c.loop-settled.auto.waits,
      c.requires.waits_sized,
    ) in
    labelled_off c.args.end nodes (length c.args.labels.now) (flag_at (set c.loop-settled.waits u false))
    (still_shut c.loop-settled.waits u within c.args.end c.loop-settled.invariant.known.shut) c.requires.labelled v
    inside waiting

pub offer-requires-clause-room : goal.offer-requires-clause-room
offer-requires-clause-room g c =
    let nodes = g.C.Costs.node_count c.args.costs.now in
    let known = c.loop-settled.invariant.known in
    let fewer : c.loop-settled.settled < nodes = omega (arith, c.loop-settled.invariant.fewer) in
    led_room nodes (g.C.Costs.arc c.args.costs.now) c.args.end (cell_at c.loop-settled.row)
    (g.met.C.Costs.small c.args.costs.now) c.requires.few known.leads
    (λ x within. omega (arith, known.few x within, fewer))

-- the list without the node that is settled, whose flag is taken down
pub offer-requires-clause-queued : goal.offer-requires-clause-queued
offer-requires-clause-queued g c =
    let nodes = g.C.Costs.node_count c.args.costs.now in
    let list = c.loop-settled.queue.list.now in
    let u = node_in_list list 0 in
    let rest = c.loop-settled.queue.count - 1 in
    let cell = cell_at c.loop-settled.row in
    let waits = flag_at c.loop-settled.waits in
    let now = flag_at (set c.loop-settled.waits u false) in
    let listed = c.loop-settled.invariant.queued.listed in
    let first = c.front_counts.ensures.yes c.if-not-front_counts.false in
    let one_more : rest + 1 ≡ c.loop-settled.queue.count = omega (arith, first.2.inside) in
    let inside : u < nodes = (listed.each 0 first.2.inside).0 in
    let within : u < length c.loop-settled.waits = omega (
      arith,
      inside,
      c.loop-settled.auto.waits,
      c.requires.waits_sized,
    ) in
    let taken = taken_out nodes (λ v. is_ready (waits v) (cell v)) (λ v. is_ready (now v) (cell v)) list 0 rest
    (subst (AreReady nodes waits cell list) (sym one_more) listed) (omega arith)
    (omega (arith, one_more, c.loop-settled.invariant.few, c.loop-settled.invariant.places))
    (ap (λ (s : Bool). is_ready s (cell u)) (closed c.loop-settled.waits u within))
    (λ v other. ap (λ (s : Bool). is_ready s (cell v)) (left c.loop-settled.waits u within v other)) in
    let left_over = c.take_front.new.self in
    let ready_now = λ (v : ℕ). is_ready (now v) (cell v) in
    record {
      listed = same_waiting c.args.labels.now c.loop-settled.row left_over.list.now left_over.places.now left_over.count
          c.take_front.ensures.queue nodes ready_now (set list 0 (node_in_list list left_over.count))
          (subst (λ (n : ℕ). AreWaiting nodes ready_now (set list 0 (node_in_list list n)) n)
          (sym c.take_front.ensures.count) taken) c.take_front.ensures.same;
      queue = c.take_front.ensures.queue;
      heap = c.take_front.ensures.heap;
    }

pub loop-settled-preserved : goal.loop-settled-preserved
loop-settled-preserved g c =
    let nodes = g.C.Costs.node_count c.args.costs.now in
    let list = c.loop-settled.queue.list.now in
    let u = node_in_list list 0 in
    let label = label_in c.args.labels.now in
    let cell = cell_at c.loop-settled.row in
    let waits = flag_at c.loop-settled.waits in
    let now = flag_at (set c.loop-settled.waits u false) in
    let first = c.front_counts.ensures.yes c.if-not-front_counts.false in
    let chosen : ComesFirst nodes label cell waits u first.0 first.1 =
    listed_first nodes label cell waits list c.loop-settled.queue.count c.loop-settled.invariant.queued.listed 0 first.0
    first.1 first.2 in
    let within : u < length c.loop-settled.waits = omega (
      arith,
      chosen.inside,
      c.loop-settled.auto.waits,
      c.requires.waits_sized,
    ) in
    let less : waiting nodes now + 1 ≡ waiting nodes waits =
    waiting_less nodes waits now u chosen.inside chosen.waiting (closed c.loop-settled.waits u within)
    (left c.loop-settled.waits u within) in
    let known = known_next nodes (g.C.Costs.arc c.args.costs.now) c.args.end label
    (g.met.C.Costs.between_nodes c.args.costs.now) c.requires.keeps cell (cell_at c.offer.new.row) waits now
    c.loop-settled.settled u first.0 first.1 c.loop-settled.invariant.known chosen
    (closed c.loop-settled.waits u within) (left c.loop-settled.waits u within)
    c.offer.ensures.offered in
    record {
      known = known;
      fewer = omega (arith, less, c.loop-settled.invariant.fewer);
      queued = c.offer.ensures.queued;
      few = omega (
        arith,
        ready_fewer nodes now (cell_at c.offer.new.row) c.offer.new.queue.list.now
            c.offer.new.queue.count c.args.end c.offer.ensures.queued.listed c.requires.inside known.shut,
      );
      places = omega (
        arith,
        c.loop-settled.invariant.places,
        c.take_front.ensures.list_sized,
        c.offer.ensures.list_sized,
      );
      spaced = omega (
        arith,
        c.loop-settled.invariant.spaced,
        c.take_front.ensures.places_sized,
        c.offer.auto.row,
        c.offer.ensures.places_sized,
      );
    }

pub bounds-waits-u : goal.bounds-waits-u
bounds-waits-u g c =
    let first = c.front_counts.ensures.yes c.if-not-front_counts.false in
    omega (
      arith,
      (c.loop-settled.invariant.queued.listed.each 0 first.2.inside).0,
      c.loop-settled.auto.waits,
      c.requires.waits_sized,
    )

-- each label is near, also that of a node that has none
near_all : (reach : ℕ) (labels : List ℤ) → AreNear reach labels → (v : ℕ) → IsAtMost (label_in labels v) reach
near_all reach [] near v = record { low = omega (arith, ints); high = omega (arith, ints) }
near_all reach (label ∷ labels) near zero = near 0 (omega arith)
near_all reach (label ∷ labels) near (suc v) =
    near_all reach labels (λ u inside. near (suc u) (omega (arith, inside))) v

pub front_counts-requires-clause-base : goal.front_counts-requires-clause-base
front_counts-requires-clause-base g c =
    let fits : SFits w128 c.label_of-base.result = search rules in
    simp to_z-of_z (subst (λ (z : ℤ). IsAtMost z (2 * most_label)) (sym c.label_of-base.ensures)
    (near_all (2 * most_label) c.args.labels.now c.requires.near c.args.end))

pub front_counts-requires-clause-last : goal.front_counts-requires-clause-last
front_counts-requires-clause-last g c =
    omega (arith, c.requires.inside, c.requires.sized, c.begin.auto.row, c.loop-settled.auto.row)

-- a node that is ready has a walk
ready_some : (waits : Bool) (own : Cell) → is_ready waits own ≡ true → is_some own.cost ≡ true
ready_some true own is = is
ready_some false own is = absurd (false≢true is)

pub front_counts-requires-clause-reached : goal.front_counts-requires-clause-reached
front_counts-requires-clause-reached g c i inside =
    let at = node_in_list c.loop-settled.queue.list.now i in
    ready_some (flag_at c.loop-settled.waits at) (cell_at c.loop-settled.row at)
    (c.loop-settled.invariant.queued.listed.each i inside).1

pub list_waiting-requires-clause-sized : goal.list_waiting-requires-clause-sized
list_waiting-requires-clause-sized g c =
    omega (arith, c.nodes-nodes.ensures, c.requires.sized, c.begin.auto.row)

pub offer-requires-clause-counted : goal.offer-requires-clause-counted
offer-requires-clause-counted g c =
    let known = c.loop-settled.invariant.known in
    let u = node_in_list c.loop-settled.queue.list.now 0 in
    let first = c.front_counts.ensures.yes c.if-not-front_counts.false in
    let own = (c.loop-settled.invariant.queued.listed.each 0 first.2.inside).0 in
    omega (arith, known.few u own, c.loop-settled.invariant.fewer, c.requires.few)

pub offer-requires-clause-places : goal.offer-requires-clause-places
offer-requires-clause-places g c =
    omega (arith, c.loop-settled.invariant.places, c.take_front.ensures.list_sized)

pub offer-requires-clause-settled : goal.offer-requires-clause-settled
offer-requires-clause-settled g c =
    let first = c.front_counts.ensures.yes c.if-not-front_counts.false in
    (c.loop-settled.invariant.queued.listed.each 0 first.2.inside).0

pub offer-requires-clause-shut : goal.offer-requires-clause-shut
offer-requires-clause-shut g c =
    let first = c.front_counts.ensures.yes c.if-not-front_counts.false in
    let u = node_in_list c.loop-settled.queue.list.now 0 in
    let own = (c.loop-settled.invariant.queued.listed.each 0 first.2.inside).0 in
    let within : u < length c.loop-settled.waits = omega (
      arith,
      own,
      c.loop-settled.auto.waits,
      c.requires.waits_sized,
    ) in
    still_shut c.loop-settled.waits u within c.args.end c.loop-settled.invariant.known.shut

pub offer-requires-clause-sized : goal.offer-requires-clause-sized
offer-requires-clause-sized g c =
    omega (arith, c.requires.sized, c.begin.auto.row, c.loop-settled.auto.row)

pub offer-requires-clause-spaced : goal.offer-requires-clause-spaced
offer-requires-clause-spaced g c = omega (arith, c.loop-settled.invariant.spaced, c.take_front.ensures.places_sized)

pub offer-requires-clause-waits_sized : goal.offer-requires-clause-waits_sized
offer-requires-clause-waits_sized g c =
    omega (
      arith,
      c.requires.waits_sized,
      c.loop-settled.auto.waits,
      length-set c.loop-settled.waits (node_in_list c.loop-settled.queue.list.now 0) false,
    )

pub returns : goal.returns
returns g c =
    absurd (omega (arith, c.loop-settled-test.false, c.nodes-nodes.ensures, c.loop-settled.invariant.fewer))

-- all nodes that wait are past where those of the queue are
past_listed : (nodes count : ℕ) (base : ℤ) (sought : Sought) (label : ℕ → ℤ) (cell : ℕ → Cell) (own : Cell)
    (waits : ℕ → Bool) (list : List ℕ) → AreReady nodes waits cell list count
    → AllArePast count base sought (label_by label list) (cell_by cell list) own every
    → AllArePast nodes base sought label cell own waits
past_listed nodes count base sought label cell own waits list listed past v w inside waiting is =
    let at = listed.all v inside (ready (waits v) (cell v) w waiting is) in
    subst (λ (z : ℕ). IsPast sought own ((w +ℤ label z) -ℤ base) (cell z).inner_nodes) at.2
    (past at.0 w at.1 refl (ap (λ (z : ℕ). (cell z).cost) at.2 ∙ is))

pub returns-then-not-front_counts : goal.returns-then-not-front_counts
returns-then-not-front_counts g c =
    let nodes = g.C.Costs.node_count c.args.costs.now in
    let label = label_in c.args.labels.now in
    let cell = cell_at c.loop-settled.row in
    let waits = flag_at c.loop-settled.waits in
    let fits : SFits w128 c.label_of-base.result = search rules in
    let past = simp to_z-of_z at (c.front_counts.ensures.no c.if-not-front_counts.true) in
    record {
      settled = c.loop-settled.settled;
      fewer = omega (arith, c.loop-settled.invariant.fewer);
      known = c.loop-settled.invariant.known;
      past =
          subst (λ (z : ℤ). AllArePast nodes z c.args.sought label cell (cell c.args.end) waits) c.label_of-base.ensures
          (past_listed nodes c.loop-settled.queue.count c.label_of-base.result c.args.sought label cell (cell c.args.end) waits
          c.loop-settled.queue.list.now c.loop-settled.invariant.queued.listed past);
    }
