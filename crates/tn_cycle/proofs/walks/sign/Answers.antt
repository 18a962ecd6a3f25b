-- What shows the clauses of `sign` of `src/walks.rt`.
use Rattle.std.proofs.Common.{◌≡◌, ◌<◌, ◌∙◌, length, ap, arith, rules}
use Rattle.std.proofs.lemmas.Int.{ints, to_z-of_z}
use mir.Syntax.{w128}
use mir.Val.{SFits}
use Rattle.tn_cycle.specs.Answers.{label_in}
use Rattle.tn_cycle.specs.Kept.{negated_if}
use Rattle.tn_cycle.proofs.KeptCycleLemmas.{raise_left, sign_next}
use Rattle.tn_cycle.proofs.walks.sign.Goals as goal

pub negated_if-requires : goal.negated_if-requires
negated_if-requires c =
    let labels = c.loop-v.labels in
    let v = c.loop-v.v in
    let near = c.requires.near v c.loop-v-test.true in
    let was : label_in labels v ≡ label_in c.args.labels.now v = c.loop-v.invariant.left v (omega arith) in
    let fits : SFits w128 (label_in labels v) = omega (arith, ints, was, near.low, near.high) in
    simp to_z-of_z (record { low = omega (arith, ints, was, near.low); high = omega (arith, ints, was, near.high) })

pub loop-v-preserved : goal.loop-v-preserved
loop-v-preserved c =
    let labels = c.loop-v.labels in
    let old = c.args.labels.now in
    let v = c.loop-v.v in
    let near = c.requires.near v c.loop-v-test.true in
    let was : label_in labels v ≡ label_in old v = c.loop-v.invariant.left v (omega arith) in
    let fits : SFits w128 (label_in labels v) = omega (arith, ints, was, near.low, near.high) in
    let result_fits : SFits w128 c.negated_if.result = search rules in
    let places : v < length labels = omega (arith, c.loop-v-test.true, c.loop-v.auto.labels) in
    let is : c.negated_if.result ≡ negated_if c.args.negates (label_in old v) =
    c.negated_if.ensures ∙ ap (negated_if c.args.negates) (to_z-of_z w128 (label_in labels v) fits ∙ was) in
    simp to_z-of_z (record {
      written = sign_next labels old c.args.negates v c.negated_if.result places c.loop-v.invariant.written is;
      left = raise_left labels old v c.negated_if.result c.loop-v.invariant.left;
    })
