-- What shows the clauses of `add_units` of `src/worths.rt`.
use Rattle.std.proofs.Common.{◌≡◌, ◌∙◌, ap, arith, ℤ, pos, ◌+ℤ◌, ◌*ℤ◌, get_or}
use Rattle.std.specs.Prelude.{set}
use Rattle.std.proofs.lemmas.Int.{ints, to_z-of_z}
use mir.Syntax.{w64, w128}
use mir.Val.{SFits}
use Rattle.tn_base.specs.Arcs.{IsAtMost}
use Rattle.tn_links.specs.RiseLemmas.{times_small}
use Rattle.tn_counts.specs.Widths.{most_wide_amount}
use Rattle.tn_tree.specs.Nets.{most_sum}
use Rattle.tn_tree.proofs.worths.add_units.Goals as goal

pub add_at-requires-clause-more : goal.add_at-requires-clause-more
add_at-requires-clause-more c =
    let each = c.requires.small in
    let fit_each : SFits w64 c.args.each = omega (arith, ints, each.low, each.high) in
    let small = times_small c.args.each c.args.units most_wide_amount c.requires.small in
    let units = c.ranges.units.fits in
    let is : c.times.result ≡ c.args.each *ℤ pos c.args.units = simp to_z-of_z at c.times.ensures in
    let fits : SFits w128 c.times.result = omega (arith, ints, small.low, small.high, units, is) in
    let most : IsAtMost c.times.result most_sum = record {
      low = omega (arith, ints, small.low, units, is);
      high = omega (arith, ints, small.high, units, is);
    } in
    simp to_z-of_z most

pub returns : goal.returns
returns c =
    let each = c.requires.small in
    let fit_each : SFits w64 c.args.each = omega (arith, ints, each.low, each.high) in
    let small = times_small c.args.each c.args.units most_wide_amount c.requires.small in
    let units = c.ranges.units.fits in
    let is : c.times.result ≡ c.args.each *ℤ pos c.args.units = simp to_z-of_z at c.times.ensures in
    let fits : SFits w128 c.times.result = omega (arith, ints, small.low, small.high, units, is) in
    let made = simp to_z-of_z at c.add_at.ensures in
    made ∙ ap (λ (z : ℤ). set c.args.numbers.now.items c.args.place
    (get_or c.args.numbers.now.items c.args.place (pos 0) +ℤ z)) is
