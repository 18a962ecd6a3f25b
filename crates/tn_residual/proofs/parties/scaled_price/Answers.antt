-- What shows the clauses of `scaled_price` of `src/parties.rt`.
use Rattle.std.proofs.Common.{arith, pos, ℤ, ◌*ℤ◌, ◌*◌, ◌≤ℤ◌, refl}
use Rattle.std.proofs.lemmas.Int.{ints, to_z-of_z}
use mir.Syntax.{w128}
use mir.Val.{SFits}
use Rattle.tn_base.specs.Arcs.{IsAtMost}
use Rattle.tn_firm_laws.proofs.BoundLemmas.{times_small}
use Rattle.tn_model.specs.Limits.{most_claimed_over, most_numerator}
use Rattle.tn_residual.proofs.parties.scaled_price.Goals as goal

-- the product of a scale within its limits and a price within its own
scaled_small : (scale price : ℤ) → pos 1 ≤ℤ scale → scale ≤ℤ pos most_claimed_over → IsAtMost price most_numerator
    → IsAtMost (scale *ℤ price) (most_claimed_over * most_numerator)
scaled_small scale price from_one most small =
    times_small scale price most_claimed_over most_numerator
    (record { low = omega (arith, ints, from_one); high = most }) small

pub overflow_mul-result : goal.overflow_mul-result
overflow_mul-result c =
    let scale : SFits w128 c.args.scale = c.ranges.scale in
    let price : SFits w128 c.args.price = c.ranges.price in
    let product =
    scaled_small c.args.scale c.args.price c.requires.from_one c.requires.small_scale c.requires.small in
    simp to_z-of_z (omega (arith, ints, product.low, product.high))

pub returns-clause-value : goal.returns-clause-value
returns-clause-value c =
    let scale : SFits w128 c.args.scale = c.ranges.scale in
    let price : SFits w128 c.args.price = c.ranges.price in
    let product =
    scaled_small c.args.scale c.args.price c.requires.from_one c.requires.small_scale c.requires.small in
    let fits : SFits w128 (c.args.scale *ℤ c.args.price) = omega (arith, ints, product.low, product.high) in
    simp to_z-of_z refl

pub returns-clause-small : goal.returns-clause-small
returns-clause-small c =
    let scale : SFits w128 c.args.scale = c.ranges.scale in
    let price : SFits w128 c.args.price = c.ranges.price in
    let product =
    scaled_small c.args.scale c.args.price c.requires.from_one c.requires.small_scale c.requires.small in
    let fits : SFits w128 (c.args.scale *ℤ c.args.price) = omega (arith, ints, product.low, product.high) in
    simp to_z-of_z product
