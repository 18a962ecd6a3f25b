-- What shows the clauses of `break_into` of `src/kept_cycles.rt`.
use Rattle.std.proofs.Common.{◌≡◌, ◌∙◌, ℕ, sym, ap, subst, arith, inl, inr, ◌+ℤ◌, ◌≤ℤ◌, Some}
use Rattle.std.proofs.lemmas.Int.{ints, to_z-of_z}
use Rattle.std.proofs.lemmas.Bool.{cases_eq}
use mir.Syntax.{w128}
use mir.Val.{SFits}
use Rattle.tn_cycle.specs.Answers.{label_in}
use Rattle.tn_cycle.proofs.kept_cycles.break_into.Goals as goal

pub is_broken-requires-clause-begin : goal.is_broken-requires-clause-begin
is_broken-requires-clause-begin g c =
    let v = c.predecessor-v.result in
    let inside = (g.met.C.Costs.lists_predecessors c.args.costs.now c.args.node c.requires.inside).inside c.loop-k.k
    (omega (arith, c.loop-k-test.true, c.predecessors-k-end.ensures)) in
    let near = c.requires.near v (omega (arith, inside, c.predecessor-v.ensures, c.requires.labels_sized)) in
    let fits : SFits w128 (label_in c.args.labels.now v) = omega (arith, ints, near.low, near.high) in
    simp to_z-of_z (record { low = omega (arith, ints, near.low); high = omega (arith, ints, near.high) })

pub is_broken-requires-clause-cost : goal.is_broken-requires-clause-cost
is_broken-requires-clause-cost g c x is =
    let small = g.met.C.Costs.small c.args.costs.now c.predecessor-v.result c.args.node x (sym c.cost.ensures ∙ is) in
    record { low = omega (arith, ints, small.low); high = omega (arith, ints, small.high) }

pub loop-k-preserved : goal.loop-k-preserved
loop-k-preserved g c i cost below is =
    let label = label_in c.args.labels.now in
    let at = g.C.Costs.predecessor_at c.args.costs.now c.args.node in
    let v = c.predecessor-v.result in
    let inside = (g.met.C.Costs.lists_predecessors c.args.costs.now c.args.node c.requires.inside).inside c.loop-k.k
    (omega (arith, c.loop-k-test.true, c.predecessors-k-end.ensures)) in
    let v_is : v ≡ at c.loop-k.k = c.predecessor-v.ensures in
    let near = c.requires.near v (omega (arith, inside, v_is, c.requires.labels_sized)) in
    let fits : SFits w128 (label v) = omega (arith, ints, near.low, near.high) in
    let end_near = c.requires.near c.args.node (omega (arith, c.requires.inside, c.requires.labels_sized)) in
    let end_fits : SFits w128 (label c.args.node) = omega (arith, ints, end_near.low, end_near.high) in
    let kept = simp to_z-of_z at c.is_broken.ensures in
    elim (cases_eq i c.loop-k.k) [
      | inl same ↦
          let v_at : at i ≡ v = ap at same ∙ sym v_is in
          let here : c.cost.result ≡ Some cost = c.cost.ensures
          ∙ subst (λ (z : ℕ). g.C.Costs.arc c.args.costs.now z c.args.node ≡ Some cost) v_at is in
          let last : label c.args.node ≤ℤ (label v +ℤ cost) = kept cost c.if-is_broken.false here in
          subst (λ (z : ℕ). label c.args.node ≤ℤ (label z +ℤ cost)) (sym v_at) last
      | inr other ↦ c.loop-k.invariant i cost (omega (arith, below, other)) is
    ]

pub returns : goal.returns
returns g c u cost _ is =
    let at = g.C.Costs.predecessor_at c.args.costs.now c.args.node in
    let listed = (g.met.C.Costs.lists_predecessors c.args.costs.now c.args.node c.requires.inside).all u cost is in
    subst (λ (z : ℕ). label_in c.args.labels.now c.args.node ≤ℤ (label_in c.args.labels.now z +ℤ cost)) listed.2
    (c.loop-k.invariant listed.0 cost (omega (arith, listed.1, c.loop-k-test.false, c.predecessors-k-end.ensures))
    (subst (λ (z : ℕ). g.C.Costs.arc c.args.costs.now z c.args.node ≡ Some cost) (sym listed.2) is))
