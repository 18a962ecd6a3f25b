-- What shows the clauses of `valued` of `src/aim.rt`.
use Rattle.std.proofs.Common.{arith, ◌*ℤ◌}
use Rattle.std.proofs.lemmas.Int.{ints, to_z-of_z}
use mir.Syntax.{w128}
use mir.Val.{SFits}
use Rattle.tn_market.proofs.AscentLemmas.{scaled_small, valued_is}
use Rattle.tn_market.proofs.aim.valued.Goals as goal

pub overflow_mul-result : goal.overflow_mul-result
overflow_mul-result c =
    let scale : SFits w128 c.args.scale = c.ranges.scale in
    let worth : SFits w128 c.args.worth = c.ranges.worth in
    let product =
    scaled_small c.args.scale c.args.worth c.requires.from_one c.requires.small_scale c.requires.small_worth in
    simp to_z-of_z (omega (arith, ints, product.low, product.high))

pub overflow_add-result : goal.overflow_add-result
overflow_add-result c =
    let scale : SFits w128 c.args.scale = c.ranges.scale in
    let worth : SFits w128 c.args.worth = c.ranges.worth in
    let gain : SFits w128 c.args.gain = c.ranges.gain in
    let product =
    scaled_small c.args.scale c.args.worth c.requires.from_one c.requires.small_scale c.requires.small_worth in
    let small = c.requires.small_gain in
    let product_fits : SFits w128 (c.args.scale *ℤ c.args.worth) = omega (arith, ints, product.low, product.high) in
    simp to_z-of_z (omega (arith, ints, product.low, product.high, small.low, small.high))

pub returns-clause-value : goal.returns-clause-value
returns-clause-value c =
    let scale : SFits w128 c.args.scale = c.ranges.scale in
    let worth : SFits w128 c.args.worth = c.ranges.worth in
    let gain : SFits w128 c.args.gain = c.ranges.gain in
    let product =
    scaled_small c.args.scale c.args.worth c.requires.from_one c.requires.small_scale c.requires.small_worth in
    simp to_z-of_z (valued_is c.args.scale c.args.worth c.args.gain product c.requires.small_gain)

pub returns-clause-small : goal.returns-clause-small
returns-clause-small c =
    let scale : SFits w128 c.args.scale = c.ranges.scale in
    let worth : SFits w128 c.args.worth = c.ranges.worth in
    let gain : SFits w128 c.args.gain = c.ranges.gain in
    let product =
    scaled_small c.args.scale c.args.worth c.requires.from_one c.requires.small_scale c.requires.small_worth in
    let small = c.requires.small_gain in
    let is = valued_is c.args.scale c.args.worth c.args.gain product small in
    simp to_z-of_z (record {
      low = omega (arith, ints, is, product.low, small.low);
      high =
          omega (arith, ints, is, product.high, small.high);
    })
