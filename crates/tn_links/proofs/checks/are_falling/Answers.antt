-- What shows the clauses of `are_falling` of `src/checks.rt`.
use Rattle.std.proofs.Common.{◌-◌, get_or, arith, pos}
use Rattle.std.proofs.lemmas.Int.{ints, to_z-of_z}
use Rattle.std.proofs.lemmas.Option.{slice_get-get_or, slice_get_within}
use mir.Syntax.{w64}
use mir.Val.{SFits}
use Rattle.tn_links.specs.declared.link.Step.{Step}
use Rattle.tn_links.proofs.CheckLemmas.{fall_more}
use Rattle.tn_links.proofs.checks.are_falling.Goals as goal

pub returns-then-before-step-clause-no : goal.returns-then-before-step-clause-no
returns-then-before-step-clause-no c is falling =
    let none : Step = record { units = 0; each = pos 0 } in
    let before = get_or c.args.steps.now (c.loop-k.k - 1) none in
    let step = get_or c.args.steps.now c.loop-k.k none in
    let first : SFits w64 before.each = omega (arith, ints) in
    let second : SFits w64 step.each = omega (arith, ints) in
    let less = simp to_z-of_z at c.if-before-step.true in
    let most = falling (c.loop-k.k - 1) c.loop-k.k before step (omega arith)
    (slice_get-get_or c.args.steps.now (c.loop-k.k - 1) none (omega (arith, c.loop-k-test.true)))
    (slice_get-get_or c.args.steps.now c.loop-k.k none c.loop-k-test.true) in
    grind (arith, ints, less, most)

pub loop-k-preserved : goal.loop-k-preserved
loop-k-preserved c =
    let none : Step = record { units = 0; each = pos 0 } in
    let before = get_or c.args.steps.now (c.loop-k.k - 1) none in
    let step = get_or c.args.steps.now c.loop-k.k none in
    let first : SFits w64 before.each = omega (arith, ints) in
    let second : SFits w64 step.each = omega (arith, ints) in
    let less = simp to_z-of_z at c.if-before-step.false in
    fall_more c.args.steps.now c.loop-k.k before step c.loop-k.auto.k
    (slice_get-get_or c.args.steps.now (c.loop-k.k - 1) none (omega (arith, c.loop-k-test.true)))
    (slice_get-get_or c.args.steps.now c.loop-k.k none c.loop-k-test.true) (grind (arith, ints, less)) c.loop-k.invariant

pub returns-clause-yes : goal.returns-clause-yes
returns-clause-yes c is i j a b less at_i at_j =
    let below = slice_get_within c.args.steps.now j b at_j in
    c.loop-k.invariant i j a b less (omega (arith, below, c.loop-k-test.false)) at_i at_j
