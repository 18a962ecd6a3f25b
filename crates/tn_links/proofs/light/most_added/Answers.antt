-- What shows the clauses of `most_added` of `src/light.rt`.
use Rattle.std.proofs.Common.{arith, get_or, pos}
use Rattle.std.proofs.lemmas.Int.{ints, to_z-of_z}
use Rattle.std.proofs.lemmas.Option.{slice_get-get_or, slice_get_within}
use mir.Syntax.{w64}
use mir.Val.{SFits}
use Rattle.tn_base.specs.Arcs.{IsAtMost}
use Rattle.tn_links.specs.declared.link.Step.{Step}
use Rattle.tn_links.proofs.CheckLemmas.{holds_more}
use Rattle.tn_links.proofs.light.most_added.Goals as goal

pub loop-step-preserved : goal.loop-step-preserved
loop-step-preserved c =
    let none : Step = record { units = 0; each = pos 0 } in
    let step = get_or c.args.steps.now c.loop-step.step-index none in
    let fits : SFits w64 step.each = omega (arith, ints) in
    let larger = simp to_z-of_z at c.larger-most.ensures.own in
    let more = c.larger-most.ensures.before in
    let before = c.loop-step.invariant.before in
    record {
      before = omega (arith, before, more);
      own = holds_more (λ i (one : Step). IsAtMost one.each c.larger-most.result) c.args.steps.now c.loop-step.step-index step
          (slice_get-get_or c.args.steps.now c.loop-step.step-index none c.loop-step-test.true)
          (record { low = larger.low; high = larger.high })
          (λ i one less at.
          let own = c.loop-step.invariant.own i one less at in
          record { low = omega (arith, ints, own.low, more); high = omega (arith, ints, own.high, more) });
    }

pub returns-clause-own : goal.returns-clause-own
returns-clause-own c i step at =
    let below = slice_get_within c.args.steps.now i step at in
    c.loop-step.invariant.own i step (omega (arith, below, c.loop-step-test.false)) at
