-- What shows the clauses of `share_of` of `src/plans.rt`.
use Rattle.std.proofs.Common.{◌+◌, sym, subst, arith, ℤ, ◌+ℤ◌}
use Rattle.std.proofs.lemmas.Int.{ints, to_z-of_z}
use mir.Syntax.{w128}
use mir.Val.{to_z, of_z}
use Rattle.tn_said.specs.declared.part.Part.{Part}
use Rattle.tn_cert.proofs.PlanSums.{IsWeight, one_weighed}
use Rattle.tn_cert.proofs.plans.share_of.Goals as goal

pub loop-k-preserved : goal.loop-k-preserved
loop-k-preserved c =
    let term : Part → ℤ = (λ p. p.weight) in
    let sum : ℤ = to_z w128 c.loop-k.share-bits in
    let more : ℤ = c.weight_for-share.result in
    let least = c.weight_for-share.ensures.least in
    let most = c.weight_for-share.ensures.most in
    let low = c.loop-k.invariant.low in
    let high = c.loop-k.invariant.high in
    let inside = c.loop-k-test.true in
    let count = c.len-k-end.ensures in
    let few = c.requires.few in
    let plain = to_z-of_z w128 more (omega (arith, ints, least, most)) in
    let whole = to_z-of_z w128 (sum +ℤ more) (omega (arith, ints, low, high, least, most, inside, count, few)) in
    subst (λ (w : ℤ). IsWeight term c.args.f c.args.plan.now (c.loop-k.k + 1) (to_z w128 (of_z w128 (sum +ℤ w))))
    (sym plain)
    (subst (IsWeight term c.args.f c.args.plan.now (c.loop-k.k + 1)) (sym whole)
    (one_weighed term c.args.f c.args.plan.now c.loop-k.k c.at.result sum more c.loop-k.invariant c.at.ensures
    c.weight_for-share.ensures.weight least most))
