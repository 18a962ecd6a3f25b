-- What shows the clauses of `first_of_pool` of `src/blocking.rt`.
use Rattle.std.proofs.Common.{rules, ◌∙◌, ◌<◌, ◌+◌, sym, ap, ap₂, subst, arith, map, length, ℤ, ◌*ℤ◌, Some, None}
use Rattle.std.specs.List.{All}
use Rattle.std.proofs.lemmas.Int.{ints, to_z-of_z}
use Rattle.std.proofs.lemmas.List.{length-map}
use Rattle.std.proofs.lemmas.Option.{slice_get_within}
use mir.Syntax.{w128}
use mir.Val.{SFits, to_z, of_z}
use Rattle.tn_base.specs.Arcs.{IsAtMost}
use Rattle.tn_market.specs.Widths.{most_asked_price}
use Rattle.tn_model.specs.declared.contract.Contract.{Contract}
use Rattle.tn_cert.proofs.BlockingLemmas.{AreTakenBefore, FindsLeftAt, one_taken, first_leaver, left_at}
use Rattle.tn_cert.proofs.CountedLemmas.{pool_known, pool_room, pool_small}
use Rattle.tn_cert.proofs.KeptLemmas.{firm_at, for_firm, listed}
use Rattle.tn_cert.proofs.blocking.first_of_pool.Goals as goal

pub loop-f-init : goal.loop-f-init
loop-f-init g c = λ f firm k offer below. absurd (omega (arith, below))

pub first_left-requires-clause-known : goal.first_left-requires-clause-known
first_left-requires-clause-known g c =
    subst (All (λ (contract : Contract). contract.trade < length c.args.market.now.trades)) (sym c.requires.pool)
    (pool_known (length c.args.market.now.trades) _ _ c.args.offers.now c.args.outcome.now.contracts
    c.requires.offers.feasible.known c.requires.outcome.contracts.known)

pub first_left-requires-clause-small : goal.first_left-requires-clause-small
first_left-requires-clause-small g c =
    let pool_is = c.requires.pool in
    let over_least = c.requires.over.least in
    let outcome_least = c.requires.outcome.least in
    subst (All (λ (contract : Contract). IsAtMost contract.price most_asked_price)) (sym pool_is)
    (pool_small c.args.over c.args.outcome.now.over c.args.offers.now c.args.outcome.now.contracts
    (omega (arith, ints, over_least)) c.requires.over.most
    (omega (arith, ints, outcome_least)) c.requires.outcome.most c.requires.offers.small
    c.requires.outcome.contracts.small)

pub first_left-requires-clause-first : goal.first_left-requires-clause-first
first_left-requires-clause-first g c =
    let offers = c.args.offers.now in
    let contracts = c.args.outcome.now.contracts in
    let first = pool_room c.args.over c.args.outcome.now.over offers contracts in
    let pool = ap length c.requires.pool in
    let count = c.len.ensures in
    omega (arith, first, pool, count)

pub first_left-requires-clause-from_one : goal.first_left-requires-clause-from_one
first_left-requires-clause-from_one g c =
    let least = c.common-scale.ensures.least in
    let most = c.common-scale.ensures.most in
    omega (arith, ints, least, most)

pub first_left-requires-clause-small_scale : goal.first_left-requires-clause-small_scale
first_left-requires-clause-small_scale g c =
    let least = c.common-scale.ensures.least in
    let most = c.common-scale.ensures.most in
    omega (arith, ints, least, most)

pub returns-in-Some : goal.returns-in-Some
returns-in-Some g c =
    let firms = map g.V.Valuation.firm c.args.market.now.firms in
    let plain = to_z-of_z w128 c.args.over c.ranges.over in
    let outcome_fits : SFits w128 c.args.outcome.now.over = search rules in
    let scale_fits : SFits w128 c.common-scale.result = search rules in
    let pool_is = c.requires.pool in
    let scale_is = to_z-of_z w128 c.common-scale.result scale_fits ∙ c.common-scale.ensures.product
    ∙ ap₂ (λ (x y : ℤ). x *ℤ y) (to_z-of_z w128 c.args.outcome.now.over outcome_fits) plain in
    let before =
    subst (λ (e : ℤ). AreTakenBefore firms c.args.market.now.trades c.args.outcome.now e c.args.offers.now
    c.loop-f.f) plain c.loop-f.invariant in
    let test = c.loop-f-test.true in
    let count = c.firms-f-end.ensures.count in
    let item = firm_at c.args.market.now.firms c.loop-f.f (omega (arith, test, count)) in
    first_leaver firms c.args.market.now.trades c.args.outcome.now c.args.over c.args.offers.now c.loop-f.f
    c.in-Some.trade (g.V.Valuation.firm item.0) before
    (listed g.V.Valuation.firm c.args.market.now.firms c.loop-f.f item.0 item.1)
    (left_at c.args.market.now.trades c.args.outcome.now c.args.over c.args.offers.now c.loop-f.f
    (g.V.Valuation.firm item.0) c.args.pool.now (to_z w128 (of_z w128 c.common-scale.result))
    c.len.result (Some c.in-Some.trade) pool_is scale_is c.len.ensures (c.in-Some.ensures item.0 item.1))

pub loop-f-preserved : goal.loop-f-preserved
loop-f-preserved g c =
    let firms = map g.V.Valuation.firm c.args.market.now.firms in
    let plain = to_z-of_z w128 c.args.over c.ranges.over in
    let outcome_fits : SFits w128 c.args.outcome.now.over = search rules in
    let scale_fits : SFits w128 c.common-scale.result = search rules in
    let pool_is = c.requires.pool in
    let scale_is = to_z-of_z w128 c.common-scale.result scale_fits ∙ c.common-scale.ensures.product
    ∙ ap₂ (λ (x y : ℤ). x *ℤ y) (to_z-of_z w128 c.args.outcome.now.over outcome_fits) plain in
    let before =
    subst (λ (e : ℤ). AreTakenBefore firms c.args.market.now.trades c.args.outcome.now e c.args.offers.now
    c.loop-f.f) plain c.loop-f.invariant in
    subst (λ (e : ℤ). AreTakenBefore firms c.args.market.now.trades c.args.outcome.now e c.args.offers.now (c.loop-f.f
    + 1)) (sym plain)
    (one_taken firms c.args.market.now.trades c.args.outcome.now c.args.over c.args.offers.now c.loop-f.f before
    (for_firm g.V.Valuation.firm c.args.market.now.firms c.loop-f.f
    (λ firm. FindsLeftAt c.args.market.now.trades c.args.outcome.now c.args.over c.args.offers.now c.loop-f.f firm
    None) (λ v is.
    left_at c.args.market.now.trades c.args.outcome.now c.args.over c.args.offers.now c.loop-f.f (g.V.Valuation.firm v)
    c.args.pool.now (to_z w128 (of_z w128 c.common-scale.result))
    c.len.result None pool_is scale_is c.len.ensures (c.in_default.ensures v is))))

pub returns : goal.returns
returns g c = λ f firm k offer is offered own.
    let test = c.loop-f-test.false in
    let count = c.firms-f-end.ensures.count in
    let end = c.loop-f.auto.f-end in
    let inside = slice_get_within (map g.V.Valuation.firm c.args.market.now.firms) f firm is in
    let mapped = length-map c.args.market.now.firms g.V.Valuation.firm in
    let taken = subst (λ (e : ℤ). AreTakenBefore (map g.V.Valuation.firm c.args.market.now.firms)
    c.args.market.now.trades c.args.outcome.now e c.args.offers.now c.loop-f.f)
    (to_z-of_z w128 c.args.over c.ranges.over) c.loop-f.invariant in
    taken f firm k offer (omega (arith, test, count, end, inside, mapped)) is offered own
