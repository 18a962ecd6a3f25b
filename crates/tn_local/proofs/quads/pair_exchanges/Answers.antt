-- What shows the clauses of `pair_exchanges` of `src/quads.rt`.
use Rattle.std.proofs.Common.{rules, SFits, arith}
use Rattle.std.specs.Int.{w128}
use Rattle.std.proofs.lemmas.Int.{to_z-of_z, ints}
use Rattle.tn_local.proofs.quads.pair_exchanges.Goals as goal

pub returns : goal.returns
returns c =
    let both_fits : SFits w128 c.args.worths.both = search rules in
    let first_fits : SFits w128 c.args.worths.first = search rules in
    let second_fits : SFits w128 c.args.worths.second = search rules in
    let neither_fits : SFits w128 c.worth_of-neither.result = search rules in
    let left_fits : SFits w128 c.together.result = search rules in
    let right_fits : SFits w128 c.together-2.result = search rules in
    let left = simp to_z-of_z at c.together.ensures in
    let right = simp to_z-of_z at c.together-2.ensures in
    let is = simp to_z-of_z at c.is_at_most.ensures in
    let both = c.requires.both in
    let first = c.requires.first in
    let second = c.requires.second in
    let neither = c.worth_of-neither.ensures.worth in (
      (λ t. let most = is.0 t in omega (arith, ints, most, left, right, both, first, second, neither)),
      λ most. is.1 (omega (arith, ints, most, left, right, both, first, second, neither)),
    )
