-- What shows the clauses of `extended` of `src/kept.rt`.
use Rattle.std.proofs.Common.{◌∙◌, ◌+ℤ◌, ℤ, Option, Some, sym, ap, arith}
use Rattle.std.proofs.lemmas.Int.{ints, to_z-of_z}
use mir.Syntax.{w128}
use mir.Val.{SFits}
use Rattle.tn_base.specs.Arcs.{IsAtMost}
use Rattle.tn_base.specs.Options.{both}
use Rattle.tn_base.specs.Widths.{most_cost}
use Rattle.tn_cycle.specs.Widths.{most_walk_cost}
use Rattle.tn_cycle.proofs.kept.extended.Goals as goal

-- the costs of an arc and of a walk, and their sum, fit
record Fit (first rest : ℤ) : Type 0 where
  pub one : SFits w128 first
  pub other : SFits w128 rest
  pub sum : SFits w128 (first +ℤ rest)

fits : (first rest : ℤ) → IsAtMost first most_cost → IsAtMost rest most_walk_cost → Fit first rest
fits first rest one other = record {
  one = omega (arith, ints, one.low, one.high);
  other = omega (arith, ints, other.low, other.high);
  sum = omega (arith, ints, one.low, one.high, other.low, other.high);
}

pub overflow_add-result : goal.overflow_add-result
overflow_add-result c =
    let two = c.in-Some-Some in
    let all = fits two.first two.rest (c.requires.first two.first two.is-0) (c.requires.rest two.rest two.is-1) in
    let one : SFits w128 two.first = all.one in
    let other : SFits w128 two.rest = all.other in
    simp to_z-of_z all.sum

pub returns-in-Some-Some : goal.returns-in-Some-Some
returns-in-Some-Some c =
    let two = c.in-Some-Some in
    let all = fits two.first two.rest (c.requires.first two.first two.is-0) (c.requires.rest two.rest two.is-1) in
    let one : SFits w128 two.first = all.one in
    let other : SFits w128 two.rest = all.other in
    let sum : SFits w128 (two.first +ℤ two.rest) = all.sum in
    simp to_z-of_z (sym (ap (λ (o : Option ℤ). both o c.args.rest) two.is-0
    ∙ ap (λ (o : Option ℤ). both (Some two.first) o) two.is-1))
