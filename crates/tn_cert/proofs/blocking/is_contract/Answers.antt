-- What shows the clauses of `is_contract` of `src/blocking.rt`.
use Rattle.std.proofs.Common.{rules, ◌∙◌, sym, ap₂, subst, arith, ℤ, ◌*ℤ◌}
use Rattle.std.proofs.lemmas.Int.{to_z-of_z}
use mir.Syntax.{w128}
use mir.Val.{SFits, to_z, of_z}
use Rattle.tn_base.specs.Arcs.{IsAtMost}
use Rattle.tn_model.specs.Limits.{most_number, most_numerator}
use Rattle.tn_market.proofs.AscentLemmas.{smaller}
use Rattle.tn_cert.specs.Greatest.{DecidesEqual}
use Rattle.tn_cert.proofs.BlockingLemmas.{decides_contract, no_contract, price_small}
use Rattle.tn_cert.proofs.blocking.is_contract.Goals as goal

pub are_equal-requires-clause-small_c : goal.are_equal-requires-clause-small_c
are_equal-requires-clause-small_c c =
    let fits : SFits w128 c.in-Some.price = search rules in
    subst (λ (z : ℤ). IsAtMost z most_number) (sym (to_z-of_z w128 c.in-Some.price fits))
    (smaller c.in-Some.price most_numerator most_number (omega arith)
    (price_small c.args.outcome.now.contracts c.args.offer.trade most_numerator c.in-Some.price
    (sym c.contract_price.ensures ∙ c.in-Some.is) c.requires.small_outcome))

pub returns-in-Some : goal.returns-in-Some
returns-in-Some c =
    let fits : SFits w128 c.in-Some.price = search rules in
    let offer_fits : SFits w128 c.args.offer.price = search rules in
    let outcome_fits : SFits w128 c.args.outcome.now.over = search rules in
    let first = ap₂ (λ (x y : ℤ). x *ℤ y) (to_z-of_z w128 c.args.offer.price offer_fits)
    (to_z-of_z w128 c.args.outcome.now.over outcome_fits) in
    let second =
    ap₂ (λ (x y : ℤ). x *ℤ y) (to_z-of_z w128 c.in-Some.price fits) (to_z-of_z w128 c.args.over c.ranges.over) in
    decides_contract c.args.outcome.now c.args.over c.args.offer c.in-Some.price c.are_equal.result c.requires.once
    (sym c.contract_price.ensures ∙ c.in-Some.is)
    (subst (λ (z : ℤ). DecidesEqual z (c.in-Some.price *ℤ c.args.over) c.are_equal.result) first
    (subst (λ (z : ℤ). DecidesEqual (to_z w128 (of_z w128 c.args.offer.price) *ℤ to_z w128
    (of_z w128 c.args.outcome.now.over)) z c.are_equal.result) second c.are_equal.ensures))

pub returns-in-None : goal.returns-in-None
returns-in-None c =
    no_contract c.args.outcome.now c.args.over c.args.offer (sym c.contract_price.ensures ∙ c.in-None.is)
