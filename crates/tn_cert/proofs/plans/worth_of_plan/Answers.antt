-- What shows the clauses of `worth_of_plan` of `src/plans.rt`.
use Rattle.std.proofs.Common.{◌+◌, map, refl, sym, subst, arith, ℤ, ◌+ℤ◌}
use Rattle.std.proofs.lemmas.Int.{ints, to_z-of_z}
use Rattle.std.proofs.lemmas.Option.{slice_get_read}
use mir.Syntax.{w128}
use mir.Val.{to_z, of_z}
use Rattle.tn_market.proofs.AscentLemmas.{smaller}
use Rattle.tn_market.proofs.AskLemmas.{as_is}
use Rattle.tn_market.specs.Widths.{most_utility}
use Rattle.tn_firm.specs.Raw.{raw_firm_of}
use Rattle.tn_price.proofs.JudgeLemmas.{firm_is}
use Rattle.tn_cert.specs.Limits.{most_planned_worth}
use Rattle.tn_cert.proofs.PlanSums.{IsPlanned, one_planned}
use Rattle.tn_cert.proofs.plans.worth_of_plan.Goals as goal

pub loop-f-preserved : goal.loop-f-preserved
loop-f-preserved c =
    let firms = map raw_firm_of c.args.firms.now in
    let raw = c.index-firms-f.result in
    let over : ℤ = to_z w128 (of_z w128 c.args.over) in
    let at = firm_is raw_firm_of c.args.firms.now c.loop-f.f raw
    (slice_get_read c.args.firms.now _ c.loop-f.f raw refl c.loop-f-test.true c.index-firms-f.is) in
    let sum : ℤ = to_z w128 c.loop-f.total-bits in
    let more : ℤ = c.in-Some.worth in
    let small = c.in-Some.ensures.small in
    let low = c.loop-f.invariant.small.low in
    let high = c.loop-f.invariant.small.high in
    let more_low = small.low in
    let more_high = small.high in
    let inside = c.loop-f-test.true in
    let few = c.requires.few_firms in
    let plain = as_is more (smaller more most_planned_worth most_utility (omega arith) small) in
    let whole = to_z-of_z w128 (sum +ℤ more) (omega (arith, ints, low, high, more_low, more_high, inside, few)) in
    subst (λ (w : ℤ). IsPlanned firms c.args.plan.now over (c.loop-f.f + 1) (to_z w128 (of_z w128 (sum +ℤ w))))
    (sym plain)
    (subst (IsPlanned firms c.args.plan.now over (c.loop-f.f + 1)) (sym whole)
    (one_planned firms c.args.plan.now over c.loop-f.f (raw_firm_of raw) sum more c.loop-f.invariant at
    c.in-Some.ensures.worth.0 c.in-Some.ensures.worth.1 small))
