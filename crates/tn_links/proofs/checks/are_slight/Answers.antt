-- What shows the clauses of `are_slight` of `src/checks.rt`.
use Rattle.std.proofs.Common.{get_or, arith, pos}
use Rattle.std.proofs.lemmas.Int.{ints, to_z-of_z}
use Rattle.std.proofs.lemmas.Option.{slice_get-get_or, slice_get_within}
use mir.Syntax.{w64}
use mir.Val.{SFits}
use Rattle.tn_base.specs.Arcs.{IsAtMost}
use Rattle.tn_links.specs.declared.link.Step.{Step}
use Rattle.tn_links.specs.Widths.{most_each}
use Rattle.tn_links.proofs.CheckLemmas.{holds_more}
use Rattle.tn_links.proofs.checks.are_slight.Goals as goal
use Rattle.tn_links.proofs.checks.are_slight.Goals.{then-each-via-then-each, then-each-via-else-each+then-each-gt-MOST_EACH}

pub returns-then-each-clause-no : goal.returns-then-each-clause-no
returns-then-each-clause-no c is slight =
    let none : Step = record { units = 0; each = pos 0 } in
    let step = get_or c.args.steps.now c.loop-step.step-index none in
    let fits : SFits w64 step.each = omega (arith, ints) in
    let small = slight c.loop-step.step-index step
    (slice_get-get_or c.args.steps.now c.loop-step.step-index none c.loop-step-test.true) in
    elim c.then-each.branch [
      | then-each-via-then-each w ↦
          let low = simp to_z-of_z at w.if-each.true in grind (arith, ints, low, small.low)
      | then-each-via-else-each+then-each-gt-MOST_EACH w ↦
          let high = simp to_z-of_z at w.if-each-gt-MOST_EACH.true in grind (arith, ints, high, small.high)
    ]

pub loop-step-preserved : goal.loop-step-preserved
loop-step-preserved c =
    let step = get_or c.args.steps.now c.loop-step.step-index (record { units = 0; each = pos 0 }) in
    let fits : SFits w64 step.each = omega (arith, ints) in
    let low = simp to_z-of_z at c.if-each.false in
    let high = simp to_z-of_z at c.if-each-gt-MOST_EACH.false in
    holds_more (λ i (one : Step). IsAtMost one.each most_each) c.args.steps.now c.loop-step.step-index step
    (slice_get-get_or c.args.steps.now c.loop-step.step-index (record { units = 0; each = pos 0 }) c.loop-step-test.true)
    (record { low = grind (arith, ints, low); high = grind (arith, ints, high) })
    c.loop-step.invariant

pub returns-clause-yes : goal.returns-clause-yes
returns-clause-yes c is i step at =
    let below = slice_get_within c.args.steps.now i step at in
    c.loop-step.invariant i step (omega (arith, below, c.loop-step-test.false)) at
