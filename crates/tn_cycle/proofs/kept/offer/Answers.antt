-- What shows the clauses of `offer` of `src/kept.rt`.
use Rattle.std.proofs.Common.{◌≡◌, ◌≢◌, ◌<◌, ◌∙◌, ℕ, List, Some, length, refl, sym, ap, subst, arith}
use Rattle.std.proofs.lemmas.Int.{ints}
use Rattle.tn_base.specs.Arcs.{ListsPredecessors}
use Rattle.tn_cycle.specs.declared.cell.Cell.{Cell}
use Rattle.tn_cycle.specs.declared.queue.Queue.{Queue}
use Rattle.tn_cycle.specs.Cells.{cell_at}
use Rattle.tn_cycle.specs.Kept.{AfterOffer, flag_at}
use Rattle.tn_cycle.specs.Queue.{AreQueued}
use Rattle.tn_cycle.proofs.CountLemmas.{ready_fewer}
use Rattle.tn_cycle.proofs.OfferLemmas.{after_all, after_next, after_none, after_some, not_yet, passed_next}
use Rattle.tn_cycle.proofs.kept.offer.Goals.{then-is_some, else-is_some}
use Rattle.tn_cycle.proofs.kept.offer.Goals as goal

pub go_on-requires-clause-places : goal.go_on-requires-clause-places
go_on-requires-clause-places g c =
    let fewer = ready_fewer (g.C.Costs.node_count c.args.costs.now) (flag_at c.args.waits.now) (cell_at c.loop-k.row)
    c.loop-k.queue.list.now c.loop-k.queue.count c.args.end c.loop-k.invariant.queued.listed c.requires.last c.requires.shut in
    omega (arith, fewer, c.requires.places, c.loop-k.invariant.list_sized)

pub go_on-requires-clause-few : goal.go_on-requires-clause-few
go_on-requires-clause-few g c =
    let fewer = ready_fewer (g.C.Costs.node_count c.args.costs.now) (flag_at c.args.waits.now) (cell_at c.loop-k.row)
    c.loop-k.queue.list.now c.loop-k.queue.count c.args.end c.loop-k.invariant.queued.listed c.requires.last c.requires.shut in
    omega (arith, fewer, c.requires.few)

pub loop-k-preserved : goal.loop-k-preserved
loop-k-preserved g c =
    let costs = c.args.costs.now in
    let nodes = g.C.Costs.node_count costs in
    let arc = g.C.Costs.arc costs in
    let end = c.args.end in
    let u = c.args.u in
    let beyond = cell_at c.args.row.now u in
    let waits = flag_at c.args.waits.now in
    let at = g.C.Costs.predecessor_at costs u in
    let k = c.loop-k.k in
    let v = c.predecessor-v.result in
    let row = cell_at c.loop-k.row in
    let first = c.first_cost-first.result in
    let lists = g.met.C.Costs.lists_predecessors costs u c.requires.settled in
    let below : k < g.C.Costs.predecessor_count costs u =
    omega (arith, c.loop-k-test.true, c.predecessors-k-end.ensures) in
    let v_is : v ≡ at k = c.predecessor-v.ensures in
    let within : v < nodes = omega (arith, lists.inside k below, v_is) in
    let once : (i : ℕ) → i < k → at i ≢ at k =
    λ i earlier e. let q : i ≡ k = lists.once i k (omega (arith, earlier, below)) below e in omega (arith, q, earlier)
    in
    let own : AfterOffer arc end u beyond (waits v) v (row v) (cell_at c.if-is_some.row v) =
    elim c.if-is_some.branch [
      | then-is_some w ↦
          subst (λ (cells : List Cell). AfterOffer arc end u beyond (waits v) v (row v) (cell_at cells v))
          (sym w.row-is)
          (after_some arc end u beyond (waits v) v (row v) (cell_at w.go_on.new.row v) first
          c.first_cost-first.ensures.going c.first_cost-first.ensures.staying
          (sym c.is_some.ensures ∙ w.if-is_some.true) w.go_on.ensures.own)
      | else-is_some w ↦
          subst (λ (cells : List Cell). AfterOffer arc end u beyond (waits v) v (row v) (cell_at cells v))
          (sym w.row-is)
          (after_none arc end u beyond (waits v) v (row v) first c.first_cost-first.ensures.going
          (sym c.is_some.ensures ∙ w.if-is_some.false))
    ] in
    let others : (x : ℕ) → x ≢ v → cell_at c.if-is_some.row x ≡ row x = λ x off. elim c.if-is_some.branch [
      | then-is_some w ↦ ap (λ (cells : List Cell). cell_at cells x) w.row-is ∙ w.go_on.ensures.others x off
      | else-is_some w ↦ ap (λ (cells : List Cell). cell_at cells x) w.row-is
    ] in
    let queued_by = λ (cells : List Cell) (q : Queue). AreQueued nodes waits c.args.labels.now cells q.list.now
    q.places.now q.count in
    let queued : queued_by c.if-is_some.row c.if-is_some.queue = elim c.if-is_some.branch [
      | then-is_some w ↦
          subst (λ (cells : List Cell). queued_by cells c.if-is_some.queue) (sym w.row-is)
          (subst (queued_by w.go_on.new.row) (sym w.queue-is) (record {
            listed = w.go_on.ensures.listed nodes waits within refl c.loop-k.invariant.queued.listed;
            queue = w.go_on.ensures.queue;
            heap = w.go_on.ensures.heap;
          }))
      | else-is_some w ↦
          subst (λ (cells : List Cell). queued_by cells c.if-is_some.queue) (sym w.row-is)
          (subst (queued_by c.loop-k.row) (sym w.queue-is) c.loop-k.invariant.queued)
    ] in
    let list_sized : length c.if-is_some.queue.list.now ≡ length c.loop-k.queue.list.now =
    elim c.if-is_some.branch [
      | then-is_some w ↦ ap (λ (q : Queue). length q.list.now) w.queue-is ∙ w.go_on.ensures.list_sized
      | else-is_some w ↦ ap (λ (q : Queue). length q.list.now) w.queue-is
    ] in
    let places_sized : length c.if-is_some.queue.places.now ≡ length c.loop-k.queue.places.now =
    elim c.if-is_some.branch [
      | then-is_some w ↦ ap (λ (q : Queue). length q.places.now) w.queue-is ∙ w.go_on.ensures.places_sized
      | else-is_some w ↦ ap (λ (q : Queue). length q.places.now) w.queue-is
    ] in
    let own_at =
    subst (λ (z : ℕ). AfterOffer arc end u beyond (waits z) z (row z) (cell_at c.if-is_some.row z)) v_is own
    in
    let others_at = subst (λ (z : ℕ). (x : ℕ) → x ≢ z → cell_at c.if-is_some.row x ≡ row x) v_is others in
    record {
      after = after_next arc end u beyond waits at (cell_at c.args.row.now) row k c.loop-k.invariant.after
          c.loop-k.invariant.passed (cell_at c.if-is_some.row) once own_at others_at;
      passed = passed_next arc end u beyond waits at (cell_at c.args.row.now) row k c.loop-k.invariant.after
          c.loop-k.invariant.passed (cell_at c.if-is_some.row) once own_at others_at;
      queued = queued;
      list_sized = list_sized ∙ c.loop-k.invariant.list_sized;
      places_sized = places_sized ∙ c.loop-k.invariant.places_sized;
    }

pub returns-clause-offered : goal.returns-clause-offered
returns-clause-offered g c v inside =
    let costs = c.args.costs.now in
    let nodes = g.C.Costs.node_count costs in
    let arc = g.C.Costs.arc costs in
    let u = c.args.u in
    let at = g.C.Costs.predecessor_at costs u in
    let k = c.loop-k.k in
    let all : g.C.Costs.predecessor_count costs u ≡ k = omega (
      arith,
      c.loop-k-test.false,
      c.loop-k.auto.k-end,
      c.predecessors-k-end.ensures,
    ) in
    after_all arc c.args.end u (cell_at c.args.row.now u) (flag_at c.args.waits.now) at (cell_at c.args.row.now)
    (cell_at c.loop-k.row) k c.loop-k.invariant.after c.loop-k.invariant.passed nodes
    (subst (λ (n : ℕ). ListsPredecessors nodes arc u n at) all
    (g.met.C.Costs.lists_predecessors costs u c.requires.settled)) v

pub go_on-requires-clause-rest : goal.go_on-requires-clause-rest
go_on-requires-clause-rest g c = c.requires.room c.args.u c.requires.settled

-- no predecessor was offered anything before, so that its cell is what it was
pub go_on-requires-clause-room : goal.go_on-requires-clause-room
go_on-requires-clause-room g c x is =
    let costs = c.args.costs.now in
    let u = c.args.u in
    let at = g.C.Costs.predecessor_at costs u in
    let k = c.loop-k.k in
    let lists = g.met.C.Costs.lists_predecessors costs u c.requires.settled in
    let below : k < g.C.Costs.predecessor_count costs u =
    omega (arith, c.loop-k-test.true, c.predecessors-k-end.ensures) in
    let once : (i : ℕ) → i < k → at i ≢ at k =
    λ i earlier e. let q : i ≡ k = lists.once i k (omega (arith, earlier, below)) below e in omega (arith, q, earlier)
    in
    let same : cell_at c.loop-k.row (at k) ≡ cell_at c.args.row.now (at k) =
    not_yet (g.C.Costs.arc costs) c.args.end u (cell_at c.args.row.now u) (flag_at c.args.waits.now) at
    (cell_at c.args.row.now) (cell_at c.loop-k.row) k c.loop-k.invariant.after c.loop-k.invariant.passed once in
    let v_is : c.predecessor-v.result ≡ at k = c.predecessor-v.ensures in
    let here : (cell_at c.args.row.now (at k)).cost ≡ Some x =
    sym (ap (λ (own : Cell). own.cost) same)
    ∙ subst (λ (z : ℕ). (cell_at c.loop-k.row z).cost ≡ Some x) v_is is in
    let small = c.requires.room (at k) (lists.inside k below) x here in
    record { low = omega (arith, ints, small.low); high = omega (arith, ints, small.high) }
