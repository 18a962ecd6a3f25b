-- What shows the clauses of `surplus_at` of `src/plans.rt`.
use Rattle.std.proofs.Common.{rules, ℕ, ◌+◌, ◌^◌, ◌<◌, ◌∙◌, map, refl, sym, ap, subst, arith, ℤ, ◌+ℤ◌}
use Rattle.std.proofs.lemmas.Int.{ints, to_z-of_z}
use Rattle.std.proofs.lemmas.Option.{slice_get_read}
use mir.Syntax.{w128}
use mir.Val.{to_z, of_z}
use Rattle.tn_market.proofs.AscentLemmas.{smaller}
use Rattle.tn_market.proofs.AskLemmas.{as_is}
use Rattle.tn_market.specs.Widths.{most_utility, most_worth}
use Rattle.tn_firm.specs.Raw.{raw_firm_of}
use Rattle.tn_model.specs.Network.{part}
use Rattle.tn_price.proofs.JudgeLemmas.{firm_is, part_within}
use Rattle.tn_price.proofs.SurplusLemmas.{none_at}
use Rattle.tn_cert.proofs.PlanSums.{IsSurplus, one_surplus}
use Rattle.tn_cert.proofs.plans.surplus_at.Goals as goal

pub bundle_of-bundle-requires : goal.bundle_of-bundle-requires
bundle_of-bundle-requires c =
    let few = c.requires.few_trades in
    let placed = λ (k : ℕ) (below : k < c.trades.result).
    c.requires.network.whole c.loop-f.f k (raw_firm_of c.index-firms-f.result)
    (firm_is raw_firm_of c.args.firms.now c.loop-f.f c.index-firms-f.result
    (slice_get_read c.args.firms.now _ c.loop-f.f c.index-firms-f.result refl c.loop-f-test.true
    c.index-firms-f.is))
    (subst (λ (n : ℕ). k < n) c.trades.ensures.count below) in
    (search rules, (omega (arith, few), (omega (arith, few), (search rules, placed))))

pub worth-requires : goal.worth-requires
worth-requires c =
    subst (λ (n : ℕ). c.bundle_of-bundle.result < 2 ^ n) c.trades.ensures.count
    (part_within c.args.ends.now c.loop-f.f c.trades.result c.args.on.now c.bundle_of-bundle.result
    c.bundle_of-bundle.ensures)

pub returns-in-None-clause-surplus : goal.returns-in-None-clause-surplus
returns-in-None-clause-surplus c =
    let firm = raw_firm_of c.index-firms-f.result in
    let bundle =
    c.bundle_of-bundle.ensures ∙ ap (λ (n : ℕ). part c.args.ends.now c.loop-f.f n c.args.on.now) c.trades.ensures.count
    in
    none_at (map raw_firm_of c.args.firms.now) c.args.ends.now c.args.on.now c.loop-f.f firm
    (firm_is raw_firm_of c.args.firms.now c.loop-f.f c.index-firms-f.result
    (slice_get_read c.args.firms.now _ c.loop-f.f c.index-firms-f.result refl c.loop-f-test.true
    c.index-firms-f.is))
    (sym (c.in-None.ensures.worth ∙ ap firm.worth bundle))

pub loop-f-preserved : goal.loop-f-preserved
loop-f-preserved c =
    let firms = map raw_firm_of c.args.firms.now in
    let firm = raw_firm_of c.index-firms-f.result in
    let at = firm_is raw_firm_of c.args.firms.now c.loop-f.f c.index-firms-f.result
    (slice_get_read c.args.firms.now _ c.loop-f.f c.index-firms-f.result refl c.loop-f-test.true c.index-firms-f.is)
    in
    let bundle =
    c.bundle_of-bundle.ensures ∙ ap (λ (n : ℕ). part c.args.ends.now c.loop-f.f n c.args.on.now) c.trades.ensures.count
    in
    let sum : ℤ = to_z w128 c.loop-f.surplus-bits in
    let more : ℤ = c.in-Some.worth in
    let small = c.in-Some.ensures.small in
    let low = c.loop-f.invariant.small.low in
    let high = c.loop-f.invariant.small.high in
    let more_low = small.low in
    let more_high = small.high in
    let inside = c.loop-f-test.true in
    let few = c.requires.few_firms in
    let plain = as_is more (smaller more most_worth most_utility (omega arith) small) in
    let whole = to_z-of_z w128 (sum +ℤ more) (omega (arith, ints, low, high, more_low, more_high, inside, few)) in
    subst (λ (w : ℤ). IsSurplus firms c.args.ends.now c.args.on.now (c.loop-f.f + 1) (to_z w128 (of_z w128 (sum +ℤ w))))
    (sym plain)
    (subst (IsSurplus firms c.args.ends.now c.args.on.now (c.loop-f.f + 1)) (sym whole)
    (one_surplus firms c.args.ends.now c.args.on.now c.loop-f.f sum more firm c.loop-f.invariant at
    (sym (c.in-Some.ensures.worth ∙ ap firm.worth bundle)) small))
