-- What shows the clauses of `have_small_steps` of `src/checks.rt`.
use Rattle.std.proofs.Common.{get_or, arith, pos}
use Rattle.std.proofs.lemmas.Option.{slice_get-get_or, slice_get_within}
use Rattle.tn_base.specs.Arcs.{IsAtMost}
use Rattle.tn_counts.specs.Widths.{most_unit_amount}
use Rattle.tn_links.specs.declared.link.Step.{Step}
use Rattle.tn_links.proofs.CheckLemmas.{holds_more}
use Rattle.tn_counts.proofs.checks.have_small_steps.Goals as goal

pub returns-then-not-is_small_step-clause-no : goal.returns-then-not-is_small_step-clause-no
returns-then-not-is_small_step-clause-no c is all =
    let none : Step = record { units = 0; each = pos 0 } in
    let one = get_or c.args.steps.now c.loop-step.step-index none in
    let at = slice_get-get_or c.args.steps.now c.loop-step.step-index none c.loop-step-test.true in
    c.is_small_step.ensures.no c.if-not-is_small_step.true (all c.loop-step.step-index one at)

pub loop-step-preserved : goal.loop-step-preserved
loop-step-preserved c =
    let none : Step = record { units = 0; each = pos 0 } in
    let one = get_or c.args.steps.now c.loop-step.step-index none in
    let at = slice_get-get_or c.args.steps.now c.loop-step.step-index none c.loop-step-test.true in
    holds_more (λ k (one : Step). IsAtMost one.each most_unit_amount) c.args.steps.now c.loop-step.step-index one at
    (c.is_small_step.ensures.yes c.if-not-is_small_step.false) c.loop-step.invariant

pub returns-clause-yes : goal.returns-clause-yes
returns-clause-yes c is k one at =
    let below = slice_get_within c.args.steps.now k one at in
    c.loop-step.invariant k one (omega (arith, below, c.loop-step-test.false)) at
