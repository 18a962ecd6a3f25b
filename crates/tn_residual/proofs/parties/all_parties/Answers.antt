-- What shows the clauses of `all_parties` of `src/parties.rt`.
use Rattle.std.proofs.Common.{rules, ◌∙◌, arith, ap, ◌++◌, ◌*ℤ◌, length, List}
use Rattle.std.proofs.lemmas.Int.{ints, to_z-of_z}
use mir.Syntax.{w128}
use mir.Val.{SFits}
use Rattle.tn_base.specs.Firm.{Firm}
use Rattle.tn_residual.specs.Residual.{outsides, residual_limit}
use Rattle.tn_residual.proofs.MakingLemmas.{scale_fits, levy_limit, outsides_limit}
use Rattle.tn_residual.proofs.parties.all_parties.Goals as goal

pub add_outsides-requires-clause-from_one : goal.add_outsides-requires-clause-from_one
add_outsides-requires-clause-from_one g c =
    let fits : SFits w128 c.args.scale = c.ranges.scale in
    let outcome = c.requires.outcome in
    simp to_z-of_z (scale_fits c.args.outcome.now.over c.args.scale outcome.least c.requires.scaled
    c.requires.small_scale).0

pub add_outsides-requires-clause-small_scale : goal.add_outsides-requires-clause-small_scale
add_outsides-requires-clause-small_scale g c =
    let fits : SFits w128 c.args.scale = c.ranges.scale in
    let outcome = c.requires.outcome in
    simp to_z-of_z (scale_fits c.args.outcome.now.over c.args.scale outcome.least c.requires.scaled
    c.requires.small_scale).1

pub returns-clause-firms : goal.returns-clause-firms
returns-clause-firms g c =
    let over_fits : SFits w128 c.args.outcome.now.over = search rules in
    let fits : SFits w128 c.args.scale = c.ranges.scale in
    let tax_fits : SFits w128 c.args.tax = c.ranges.tax in
    let low = c.requires.scaled in
    let high = c.requires.small_scale in
    let product_fits : SFits w128 (c.args.outcome.now.over *ℤ c.args.scale) = omega (arith, ints, low, high) in
    let first = simp to_z-of_z at c.in_ok-parties.ensures.firms in
    let second = simp to_z-of_z at c.in_ok-add_outsides.ensures.firms in
    second ∙ ap (λ (xs : List Firm). xs ++ outsides c.args.scale c.args.outcome.now.contracts) first

pub returns-clause-limits : goal.returns-clause-limits
returns-clause-limits g c =
    let over_fits : SFits w128 c.args.outcome.now.over = search rules in
    let fits : SFits w128 c.args.scale = c.ranges.scale in
    let tax_fits : SFits w128 c.args.tax = c.ranges.tax in
    let low = c.requires.scaled in
    let high = c.requires.small_scale in
    let product_fits : SFits w128 (c.args.outcome.now.over *ℤ c.args.scale) = omega (arith, ints, low, high) in
    let first = simp to_z-of_z at c.in_ok-parties.ensures.limits in
    let second = simp to_z-of_z at c.in_ok-add_outsides.ensures.limits in
    let levied = levy_limit (length c.args.market.now.trades) c.args.outcome.now.over c.args.scale c.args.tax
    c.requires.taxed c.requires.small_tax in
    second (residual_limit (length c.args.market.now.trades) c.args.outcome.now.over c.args.scale)
    (outsides_limit (length c.args.market.now.trades) c.args.outcome.now.over c.args.scale)
    (λ k party below. (let here = first k party below in omega (arith, here, levied)))
