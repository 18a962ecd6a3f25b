-- What shows the clauses of `label_less` of `src/differences.rt`.
use Rattle.std.proofs.Common.{◌≡◌, ◌∙◌, ℤ, ◌-ℤ◌, sym, ap, arith, rules}
use Rattle.std.specs.Prelude.{pos}
use Rattle.std.proofs.lemmas.Int.{ints, to_z-of_z}
use Rattle.std.proofs.lemmas.Option.{get_or_from_slice_get}
use mir.Syntax.{w128}
use mir.Val.{SFits}
use Rattle.tn_base.specs.Arcs.{IsAtMost}
use Rattle.tn_cycle.specs.Answers.{label_in}
use Rattle.tn_cycle.specs.Widths.{most_read}
use Rattle.tn_cycle.proofs.differences.label_less.Goals as goal

-- the difference of two small labels fits
difference_fits : (one other first second : ℤ) → one ≡ first → other ≡ second → IsAtMost one most_read
    → IsAtMost other most_read → SFits w128 (first -ℤ second)
difference_fits one other first second one_is other_is small others_small =
    omega (arith, ints, one_is, other_is, small.low, small.high, others_small.low, others_small.high)

pub overflow_sub-result : goal.overflow_sub-result
overflow_sub-result c =
    let labels = c.args.finder.now.labels in
    let first : SFits w128 c.label.result = search rules in
    let second : SFits w128 c.label-2.result = search rules in
    simp to_z-of_z (difference_fits (label_in labels c.args.v) (label_in labels c.args.null) c.label.result
    c.label-2.result (get_or_from_slice_get labels c.args.v c.label.result (pos 0) c.label.ensures)
    (get_or_from_slice_get labels c.args.null c.label-2.result (pos 0) c.label-2.ensures)
    (c.requires.small c.args.v c.requires.node) (c.requires.small c.args.null c.requires.last))

pub returns : goal.returns
returns c =
    let labels = c.args.finder.now.labels in
    let first : SFits w128 c.label.result = search rules in
    let second : SFits w128 c.label-2.result = search rules in
    let one : label_in labels c.args.v ≡ c.label.result =
    get_or_from_slice_get labels c.args.v c.label.result (pos 0) c.label.ensures in
    let other : label_in labels c.args.null ≡ c.label-2.result =
    get_or_from_slice_get labels c.args.null c.label-2.result (pos 0) c.label-2.ensures in
    let fits : SFits w128 (c.label.result -ℤ c.label-2.result) =
    difference_fits (label_in labels c.args.v) (label_in labels c.args.null) c.label.result c.label-2.result one other
    (c.requires.small c.args.v c.requires.node) (c.requires.small c.args.null c.requires.last) in
    simp to_z-of_z (sym (ap (λ (z : ℤ). z -ℤ label_in labels c.args.null) one
    ∙ ap (λ (z : ℤ). c.label.result -ℤ z) other))
