-- What shows the clauses of `common` of `src/blocking.rt`.
use Rattle.std.proofs.Common.{◌∙◌, sym, ap, ap₂, subst, arith, ℤ, pos, ◌*ℤ◌, ◌≤ℤ◌}
use Rattle.std.proofs.lemmas.Int.{ints, to_z-of_z}
use mir.Syntax.{w128}
use mir.Val.{SFits, to_z, of_z}
use Rattle.tn_cert.proofs.BlockingLemmas.{product_least, product_most}
use Rattle.tn_market.specs.Widths.{most_scale}
use Rattle.tn_cert.proofs.blocking.common.Goals as goal

pub returns-clause-least : goal.returns-clause-least
returns-clause-least c =
    let least = product_least c.args.outcome_over c.args.over c.requires.outcome_least c.requires.over.least in
    let most = product_most c.args.outcome_over c.args.over c.requires.outcome_least c.requires.outcome_most
    c.requires.over.least c.requires.over.most in
    let fits : SFits w128 (c.args.outcome_over *ℤ c.args.over) = omega (arith, ints, least, most) in
    let plain = ap (λ (z : ℤ). to_z w128 (of_z w128 z))
    (ap₂ (λ (x y : ℤ). x *ℤ y) (to_z-of_z w128 c.args.outcome_over c.ranges.outcome_over)
    (to_z-of_z w128 c.args.over c.ranges.over))
    ∙ to_z-of_z w128 (c.args.outcome_over *ℤ c.args.over) fits in
    subst (λ (z : ℤ). pos 1 ≤ℤ z) (sym plain) least

pub returns-clause-most : goal.returns-clause-most
returns-clause-most c =
    let least = product_least c.args.outcome_over c.args.over c.requires.outcome_least c.requires.over.least in
    let most = product_most c.args.outcome_over c.args.over c.requires.outcome_least c.requires.outcome_most
    c.requires.over.least c.requires.over.most in
    let fits : SFits w128 (c.args.outcome_over *ℤ c.args.over) = omega (arith, ints, least, most) in
    let plain = ap (λ (z : ℤ). to_z w128 (of_z w128 z))
    (ap₂ (λ (x y : ℤ). x *ℤ y) (to_z-of_z w128 c.args.outcome_over c.ranges.outcome_over)
    (to_z-of_z w128 c.args.over c.ranges.over))
    ∙ to_z-of_z w128 (c.args.outcome_over *ℤ c.args.over) fits in
    subst (λ (z : ℤ). z ≤ℤ pos most_scale) (sym plain) most
