-- What shows the clauses of `after_tax` of `src/levied.rt`.
use Rattle.std.proofs.Common.{◌≡◌, arith, pos, ◌*ℤ◌}
use Rattle.std.proofs.lemmas.Int.{ints, to_z-of_z}
use mir.Syntax.{w128}
use mir.Val.{SFits, to_z}
use Rattle.tn_market.proofs.LevyLemmas.{difference_fits, difference_is}
use Rattle.tn_market.proofs.levied.after_tax.Goals as goal

pub overflow_sub-result : goal.overflow_sub-result
overflow_sub-result c =
    let scale : SFits w128 c.args.scale = c.ranges.scale in
    let worth : SFits w128 c.args.worth = c.ranges.worth in
    let tax : SFits w128 c.args.tax = c.ranges.tax in
    let count : to_z w128 c.args.count ≡ pos c.args.count = omega (arith, ints, c.ranges.count) in
    simp (to_z-of_z, count) (difference_fits (c.args.scale *ℤ c.args.worth) (c.args.tax *ℤ pos c.args.count)
    c.requires.worth c.requires.taxes)

pub returns : goal.returns
returns c =
    let scale : SFits w128 c.args.scale = c.ranges.scale in
    let worth : SFits w128 c.args.worth = c.ranges.worth in
    let tax : SFits w128 c.args.tax = c.ranges.tax in
    let count : to_z w128 c.args.count ≡ pos c.args.count = omega (arith, ints, c.ranges.count) in
    simp (to_z-of_z, count) (difference_is (c.args.scale *ℤ c.args.worth) (c.args.tax *ℤ pos c.args.count)
    c.requires.worth c.requires.taxes)
