-- What shows the clauses of `parts_worth` of `src/plans.rt`.
use Rattle.std.proofs.Common.{◌≡◌, ◌+◌, sym, subst, arith, length, ℤ, ◌+ℤ◌}
use Rattle.std.proofs.lemmas.Int.{ints, to_z-of_z}
use mir.Syntax.{w128}
use mir.Val.{to_z, of_z}
use Rattle.tn_market.proofs.AscentLemmas.{smaller}
use Rattle.tn_market.proofs.AskLemmas.{as_is}
use Rattle.tn_market.specs.Widths.{most_utility}
use Rattle.tn_firm.specs.Raw.{raw_firm_of}
use Rattle.tn_cert.specs.Limits.{most_weighed_worth}
use Rattle.tn_cert.proofs.PlanSums.{IsWorth, one_valued, all_valued}
use Rattle.tn_cert.proofs.plans.parts_worth.Goals as goal

pub loop-k-preserved : goal.loop-k-preserved
loop-k-preserved c =
    let firm = raw_firm_of c.args.firm.now in
    let sum : ℤ = to_z w128 c.loop-k.total-bits in
    let more : ℤ = c.in-Some.worth in
    let small = c.in-Some.ensures.small in
    let low = c.loop-k.invariant.small.low in
    let high = c.loop-k.invariant.small.high in
    let more_low = small.low in
    let more_high = small.high in
    let inside = c.loop-k-test.true in
    let count = c.len-k-end.ensures in
    let few = c.requires.few in
    let plain = as_is more (smaller more most_weighed_worth most_utility (omega arith) small) in
    let whole = to_z-of_z w128 (sum +ℤ more) (omega (arith, ints, low, high, more_low, more_high, inside, count, few))
    in
    subst (λ (w : ℤ). IsWorth firm c.args.f c.args.plan.now (c.loop-k.k + 1) (to_z w128 (of_z w128 (sum +ℤ w))))
    (sym plain)
    (subst (IsWorth firm c.args.f c.args.plan.now (c.loop-k.k + 1)) (sym whole)
    (one_valued firm c.args.f c.args.plan.now c.loop-k.k c.at.result sum more c.loop-k.invariant c.at.ensures
    c.in-Some.ensures.worth small))

pub returns-clause-worth : goal.returns-clause-worth
returns-clause-worth c =
    let done : c.loop-k.k ≡ length c.args.plan.now = omega (
      arith,
      c.loop-k-test.false,
      c.loop-k.auto.k-end,
      c.len-k-end.ensures,
    ) in
    all_valued (raw_firm_of c.args.firm.now) c.args.f c.args.plan.now c.loop-k.k (to_z w128 c.loop-k.total-bits)
    c.loop-k.invariant done
