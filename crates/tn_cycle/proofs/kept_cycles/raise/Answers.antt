-- What shows the clauses of `raise` of `src/kept_cycles.rt`.
use Rattle.std.proofs.Common.{◌≡◌, ◌≢◌, ◌<◌, ◌∙◌, ℤ, length, subst, arith, rules}
use Rattle.std.proofs.lemmas.Int.{ints, to_z-of_z}
use mir.Syntax.{w128}
use mir.Val.{SFits, of_z, to_z}
use Rattle.tn_cycle.specs.Answers.{label_in}
use Rattle.tn_cycle.specs.Cells.{cell_at}
use Rattle.tn_cycle.specs.Kept.{IsRaised}
use Rattle.tn_cycle.proofs.KeptCycleLemmas.{raise_left, raise_next}
use Rattle.tn_cycle.proofs.kept_cycles.raise.Goals as goal

pub raised-requires-clause-cost : goal.raised-requires-clause-cost
raised-requires-clause-cost c = c.requires.room c.loop-v.v c.loop-v-test.true

pub loop-v-preserved : goal.loop-v-preserved
loop-v-preserved c =
    let labels = c.loop-v.labels in
    let old = c.args.labels.now in
    let v = c.loop-v.v in
    let near = c.requires.near v c.loop-v-test.true in
    let was : label_in labels v ≡ label_in old v = c.loop-v.invariant.left v (omega arith) in
    let label_fits : SFits w128 (label_in labels v) = omega (arith, ints, was, near.low, near.high) in
    let limit_fits : SFits w128 c.args.limit = c.ranges.limit in
    let result_fits : SFits w128 c.raised.result = search rules in
    let places : v < length labels = omega (arith, c.loop-v-test.true, c.loop-v.auto.labels) in
    let own : v ≡ c.args.node → c.raised.result ≡ label_in labels v =
    λ e. c.raised.ensures.own e ∙ to_z-of_z w128 (label_in labels v) label_fits in
    let others : v ≢ c.args.node
    → IsRaised (label_in labels v) (cell_at c.args.row.now v).cost c.args.limit c.raised.result =
    λ off. subst (λ (z : ℤ). IsRaised z (cell_at c.args.row.now v).cost c.args.limit c.raised.result)
    (to_z-of_z w128 (label_in labels v) label_fits)
    (subst (λ (z : ℤ). IsRaised (to_z w128 (of_z w128 (label_in labels v))) (cell_at c.args.row.now v).cost z
    c.raised.result) (to_z-of_z w128 c.args.limit limit_fits) (c.raised.ensures.others off)) in
    let before = simp to_z-of_z at c.loop-v.invariant.raised in
    simp to_z-of_z (record {
      raised = raise_next labels old (cell_at c.args.row.now) c.args.node v c.args.limit c.raised.result places before
          c.loop-v.invariant.left own others;
      left = raise_left labels old v c.raised.result c.loop-v.invariant.left;
    })
