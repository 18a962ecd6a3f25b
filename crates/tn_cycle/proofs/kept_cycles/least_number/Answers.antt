-- What shows the clauses of `least_number` of `src/kept_cycles.rt`.
use Rattle.std.proofs.Common.{◌≡◌, ◌≢◌, ◌+◌, ◌<◌, ◌∙◌, ℕ, ℤ, Option, length, sym, ap, subst, arith, rules}
use Rattle.std.proofs.lemmas.Int.{ints, to_z-of_z}
use mir.Syntax.{w128}
use mir.Val.{SFits, of_z, to_z}
use Rattle.tn_base.specs.Arcs.{ListsSuccessors}
use Rattle.tn_base.specs.Widths.{most_cost}
use Rattle.tn_cycle.specs.Answers.{label_in}
use Rattle.tn_cycle.specs.Kept.{IsLiftedBy, negated_if}
use Rattle.tn_cycle.specs.Widths.{most_label}
use Rattle.tn_cycle.proofs.KeptCycleLemmas.{lifted_all, lifted_near, lifted_next, signed_near}
use Rattle.tn_cycle.proofs.kept_cycles.least_number.Goals as goal

pub negated_if-label-requires : goal.negated_if-label-requires
negated_if-label-requires g c =
    let v = c.successor-v.result in
    let inside = (g.met.C.Costs.lists_successors c.args.costs.now c.args.node c.requires.inside).inside c.loop-k.k
    (omega (arith, c.loop-k-test.true, c.successors-k-end.ensures)) in
    let near = c.requires.near v (omega (arith, inside, c.successor-v.ensures, c.requires.labels_sized)) in
    let fits : SFits w128 (label_in c.args.labels.now v) = omega (arith, ints, near.low, near.high) in
    simp to_z-of_z (record { low = omega (arith, ints, near.low); high = omega (arith, ints, near.high) })

pub lifted-least-requires-clause-label : goal.lifted-least-requires-clause-label
lifted-least-requires-clause-label g c =
    let label = label_in c.args.labels.now in
    let v = c.successor-v.result in
    let inside = (g.met.C.Costs.lists_successors c.args.costs.now c.args.node c.requires.inside).inside c.loop-k.k
    (omega (arith, c.loop-k-test.true, c.successors-k-end.ensures)) in
    let near = c.requires.near v (omega (arith, inside, c.successor-v.ensures, c.requires.labels_sized)) in
    let fits : SFits w128 (label v) = omega (arith, ints, near.low, near.high) in
    let result_fits : SFits w128 c.negated_if-label.result = search rules in
    let is = simp to_z-of_z at c.negated_if-label.ensures in
    let small = signed_near c.args.negates (label v) most_label near in
    simp to_z-of_z (record { low = omega (arith, ints, is, small.low); high = omega (arith, ints, is, small.high) })

pub lifted-least-requires-clause-cost : goal.lifted-least-requires-clause-cost
lifted-least-requires-clause-cost g c x is =
    let small = g.met.C.Costs.small c.args.costs.now c.args.node c.successor-v.result x (sym c.cost.ensures ∙ is) in
    record { low = omega (arith, ints, small.low); high = omega (arith, ints, small.high) }

pub loop-k-preserved : goal.loop-k-preserved
loop-k-preserved g c =
    let arc = g.C.Costs.arc c.args.costs.now in
    let at = g.C.Costs.successor_at c.args.costs.now c.args.node in
    let k = c.loop-k.k in
    let v = c.successor-v.result in
    let label = label_in c.args.labels.now in
    let inside = (g.met.C.Costs.lists_successors c.args.costs.now c.args.node c.requires.inside).inside k
    (omega (arith, c.loop-k-test.true, c.successors-k-end.ensures)) in
    let v_is : v ≡ at k = c.successor-v.ensures in
    let places : v < length c.args.labels.now = omega (arith, inside, v_is, c.requires.labels_sized) in
    let near = c.requires.near v places in
    let fits : SFits w128 (label v) = omega (arith, ints, near.low, near.high) in
    let own_fits : SFits w128 c.negated_if-label.result = search rules in
    let number = λ (u : ℕ). negated_if c.args.negates (label u) in
    let is : to_z w128 (of_z w128 c.negated_if-label.result) ≡ number v =
    to_z-of_z w128 c.negated_if-label.result own_fits ∙ c.negated_if-label.ensures
    ∙ ap (negated_if c.args.negates) (to_z-of_z w128 (label v) fits) in
    let others : v ≢ c.args.node → IsLiftedBy c.loop-k.least (number v) (arc c.args.node v) c.lifted-least.result =
    λ off. subst (λ (z : ℤ). IsLiftedBy c.loop-k.least z (arc c.args.node v) c.lifted-least.result) is
    (subst (λ (o : Option ℤ). IsLiftedBy c.loop-k.least (to_z w128 (of_z w128 c.negated_if-label.result)) o
    c.lifted-least.result) c.cost.ensures (c.lifted-least.ensures.others off)) in
    record {
      keeps = lifted_next arc c.args.node number at k c.loop-k.least c.lifted-least.result c.loop-k.invariant.keeps
          (subst (λ (z : ℕ). z ≡ c.args.node → c.lifted-least.result ≡ c.loop-k.least) v_is c.lifted-least.ensures.own)
          (subst (λ (z : ℕ). z ≢ c.args.node → IsLiftedBy c.loop-k.least (number z) (arc c.args.node z)
          c.lifted-least.result) v_is others);
      near = λ reach all. lifted_near (reach + most_cost) reach most_cost c.args.node v (number v) c.loop-k.least
          (arc c.args.node v) c.lifted-least.result (omega arith)
          (c.loop-k.invariant.near reach all) (signed_near c.args.negates (label v) reach (all v places))
          (λ x is. g.met.C.Costs.small c.args.costs.now c.args.node v x is) c.lifted-least.ensures.own others;
    }

pub returns-clause-keeps : goal.returns-clause-keeps
returns-clause-keeps g c =
    let nodes = g.C.Costs.node_count c.args.costs.now in
    let arc = g.C.Costs.arc c.args.costs.now in
    let at = g.C.Costs.successor_at c.args.costs.now c.args.node in
    let all : g.C.Costs.successor_count c.args.costs.now c.args.node ≡ c.loop-k.k = omega (
      arith,
      c.loop-k-test.false,
      c.loop-k.auto.k-end,
      c.successors-k-end.ensures,
    ) in
    lifted_all nodes arc c.args.node (λ u. negated_if c.args.negates (label_in c.args.labels.now u)) at c.loop-k.k
    c.loop-k.least (subst (λ (n : ℕ). ListsSuccessors nodes arc c.args.node n at) all
    (g.met.C.Costs.lists_successors c.args.costs.now c.args.node c.requires.inside)) c.loop-k.invariant.keeps
