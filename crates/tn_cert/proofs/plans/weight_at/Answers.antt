-- What shows the clauses of `weight_at` of `src/plans.rt`.
use Rattle.std.proofs.Common.{◌+◌, sym, subst, arith, pos, if◌then◌else◌, ℤ, ◌+ℤ◌}
use Rattle.std.proofs.lemmas.Int.{ints, to_z-of_z}
use mir.Syntax.{w128}
use mir.Val.{to_z, of_z}
use Rattle.tn_base.specs.Sets.{has}
use Rattle.tn_said.specs.declared.part.Part.{Part}
use Rattle.tn_cert.proofs.PlanSums.{IsWeight, one_weighed}
use Rattle.tn_cert.proofs.plans.weight_at.Goals as goal

pub loop-i-preserved : goal.loop-i-preserved
loop-i-preserved c =
    let term : Part → ℤ = (λ p. if has p.bundle c.args.k then p.weight else pos 0) in
    let sum : ℤ = to_z w128 c.loop-i.weight-bits in
    let more : ℤ = c.weight_there-weight.result in
    let least = c.weight_there-weight.ensures.least in
    let most = c.weight_there-weight.ensures.most in
    let low = c.loop-i.invariant.low in
    let high = c.loop-i.invariant.high in
    let inside = c.loop-i-test.true in
    let count = c.len-i-end.ensures in
    let few = c.requires.few in
    let plain = to_z-of_z w128 more (omega (arith, ints, least, most)) in
    let whole = to_z-of_z w128 (sum +ℤ more) (omega (arith, ints, low, high, least, most, inside, count, few)) in
    subst (λ (w : ℤ). IsWeight term c.args.f c.args.plan.now (c.loop-i.i + 1) (to_z w128 (of_z w128 (sum +ℤ w))))
    (sym plain)
    (subst (IsWeight term c.args.f c.args.plan.now (c.loop-i.i + 1)) (sym whole)
    (one_weighed term c.args.f c.args.plan.now c.loop-i.i c.at.result sum more c.loop-i.invariant c.at.ensures
    c.weight_there-weight.ensures.weight least most))
