-- What shows the clauses of `raised` of `src/fixed.rt`.
use Rattle.std.proofs.Common.{arith, sym, ap₂, subst, ℤ, pos, ◌+ℤ◌, ◌-ℤ◌, ◌≤ℤ◌, Option, Some, None}
use Rattle.std.proofs.lemmas.Int.{ints, to_z-of_z}
use mir.Syntax.{w128}
use mir.Val.{SFits}
use Rattle.tn_model.specs.Limits.{most_numerator}
use Rattle.tn_judge.specs.Fixing.{height}
use Rattle.tn_judge.proofs.fixed.raised.Goals as goal

abbrev IsHeight : ℤ → Type 0
IsHeight z = (pos 0 ≤ℤ z) × (z ≤ℤ pos most_numerator)

is_height : (price : Option ℤ) → IsHeight (height price)
is_height None = (omega (arith, ints), omega (arith, ints))
is_height (Some price) = (omega (arith, ints), omega (arith, ints))

pub overflow_add-result : goal.overflow_add-result
overflow_add-result c =
    let cost : SFits w128 c.args.cost = c.ranges.cost in
    let end : IsHeight c.height.result = subst IsHeight (sym c.height.ensures) (is_height c.args.end) in
    let fits : SFits w128 c.height.result = omega (arith, ints, end.0, end.1) in
    simp to_z-of_z (omega (arith, ints, c.requires.low, c.requires.high, end.0, end.1))

pub overflow_sub-result : goal.overflow_sub-result
overflow_sub-result c =
    let cost : SFits w128 c.args.cost = c.ranges.cost in
    let end : IsHeight c.height.result = subst IsHeight (sym c.height.ensures) (is_height c.args.end) in
    let begin : IsHeight c.height-2.result = subst IsHeight (sym c.height-2.ensures) (is_height c.args.begin) in
    let end_fits : SFits w128 c.height.result = omega (arith, ints, end.0, end.1) in
    let begin_fits : SFits w128 c.height-2.result = omega (arith, ints, begin.0, begin.1) in
    let sum_fits : SFits w128 (c.args.cost +ℤ c.height.result) =
    omega (arith, ints, c.requires.low, c.requires.high, end.0, end.1) in
    simp to_z-of_z (omega (arith, ints, c.requires.low, c.requires.high, end.0, end.1, begin.0, begin.1))

pub returns : goal.returns
returns c =
    let cost : SFits w128 c.args.cost = c.ranges.cost in
    let end : IsHeight c.height.result = subst IsHeight (sym c.height.ensures) (is_height c.args.end) in
    let begin : IsHeight c.height-2.result = subst IsHeight (sym c.height-2.ensures) (is_height c.args.begin) in
    let end_fits : SFits w128 c.height.result = omega (arith, ints, end.0, end.1) in
    let begin_fits : SFits w128 c.height-2.result = omega (arith, ints, begin.0, begin.1) in
    let sum_fits : SFits w128 (c.args.cost +ℤ c.height.result) =
    omega (arith, ints, c.requires.low, c.requires.high, end.0, end.1) in
    let whole_fits : SFits w128 ((c.args.cost +ℤ c.height.result) -ℤ c.height-2.result) =
    omega (arith, ints, c.requires.low, c.requires.high, end.0, end.1, begin.0, begin.1) in
    simp to_z-of_z (ap₂ (λ (z w : ℤ). (c.args.cost +ℤ z) -ℤ w) c.height.ensures c.height-2.ensures)
