-- What shows the clauses of `counted_contract` of `src/pool.rt`.
use Rattle.std.proofs.Common.{arith, ◌*ℤ◌}
use Rattle.std.proofs.lemmas.Int.{ints, to_z-of_z}
use mir.Syntax.{w128}
use mir.Val.{SFits}
use Rattle.tn_cert.proofs.CountedLemmas.{counted_fits}
use Rattle.tn_cert.proofs.pool.counted_contract.Goals as goal

pub overflow_mul-result : goal.overflow_mul-result
overflow_mul-result c =
    let small = c.requires.small in
    let times : SFits w128 c.args.times = c.ranges.times in
    let price : SFits w128 c.args.contract.price = omega (arith, ints, small.low, small.high) in
    simp to_z-of_z (counted_fits c.args.times c.args.contract.price c.requires.least c.requires.most small)

pub returns-clause-price : goal.returns-clause-price
returns-clause-price c =
    let small = c.requires.small in
    let times : SFits w128 c.args.times = c.ranges.times in
    let price : SFits w128 c.args.contract.price = omega (arith, ints, small.low, small.high) in
    let product : SFits w128 (c.args.times *ℤ c.args.contract.price) =
    counted_fits c.args.times c.args.contract.price c.requires.least c.requires.most small in
    simp to_z-of_z
