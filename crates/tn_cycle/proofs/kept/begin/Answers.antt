-- What shows the clauses of `begin` of `src/kept.rt`.
use Rattle.std.proofs.Common.{◌≡◌, ◌<◌, ◌+◌, ◌∙◌, ℕ, ℤ, List, Option, length, set, sym, ap, subst, arith}
use Rattle.tn_base.specs.Arcs.{ListsPredecessors}
use Rattle.tn_cycle.specs.declared.cell.Cell.{Cell}
use Rattle.tn_cycle.proofs.OfferLemmas.{AreBegun, AreEmpty, begun_all, begun_cell, begun_next, empty_next}
use Rattle.tn_cycle.proofs.kept.begin.Goals as goal

pub loop-k-preserved : goal.loop-k-preserved
loop-k-preserved g c =
    let costs = c.args.costs.now in
    let nodes = g.C.Costs.node_count costs in
    let arc = g.C.Costs.arc costs in
    let end = c.args.end in
    let at = g.C.Costs.predecessor_at costs end in
    let k = c.loop-k.k in
    let row = c.loop-k.row in
    let v_is : c.predecessor-v.result ≡ at k = c.predecessor-v.ensures in
    let inside : at k < nodes =
    (g.met.C.Costs.lists_predecessors costs end c.requires.inside).inside k
    (omega (arith, c.loop-k-test.true, c.predecessors-k-end.ensures)) in
    let places : at k < length row = omega (arith, inside, c.requires.sized, c.loop-k.auto.row, c.fill.ensures.len) in
    let cost_is : c.cost.result ≡ arc (at k) end = subst (λ (z : ℕ). c.cost.result ≡ arc z end) v_is c.cost.ensures in
    let same : set row c.predecessor-v.result (begun_cell end c.cost.result)
    ≡ set row (at k) (begun_cell end (arc (at k) end)) =
    ap (λ (z : ℕ). set row z (begun_cell end c.cost.result)) v_is
    ∙ ap (λ (o : Option ℤ). set row (at k) (begun_cell end o)) cost_is in
    record {
      begun = subst (λ (cells : List Cell). AreBegun end arc at cells (k + 1)) (sym same)
          (begun_next end arc at row k c.loop-k.invariant.begun places);
      empty = subst (λ (cells : List Cell). AreEmpty end arc at cells nodes) (sym same)
          (empty_next end arc at row k c.loop-k.invariant.begun nodes places c.loop-k.invariant.empty);
    }

pub returns : goal.returns
returns g c v inside =
    let costs = c.args.costs.now in
    let nodes = g.C.Costs.node_count costs in
    let arc = g.C.Costs.arc costs in
    let end = c.args.end in
    let at = g.C.Costs.predecessor_at costs end in
    let k = c.loop-k.k in
    let all : g.C.Costs.predecessor_count costs end ≡ k = omega (
      arith,
      c.loop-k-test.false,
      c.loop-k.auto.k-end,
      c.predecessors-k-end.ensures,
    ) in
    begun_all end arc at c.loop-k.row k c.loop-k.invariant.begun nodes
    (subst (λ (n : ℕ). ListsPredecessors nodes arc end n at) all
    (g.met.C.Costs.lists_predecessors costs end c.requires.inside)) c.loop-k.invariant.empty v inside
