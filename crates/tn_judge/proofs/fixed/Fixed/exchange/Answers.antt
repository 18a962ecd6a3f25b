-- What shows the clauses of `Fixed::exchange` of `src/fixed.rt`.
use Rattle.std.proofs.Common.{rules, ◌∙◌, ℤ, sym, subst}
use Rattle.std.proofs.lemmas.Int.{to_z-of_z}
use mir.Syntax.{w128}
use mir.Val.{SFits}
use Rattle.tn_base.specs.Arcs.{IsAtMost}
use Rattle.tn_judge.specs.Limits.{most_exchange_cost}
use Rattle.tn_judge.proofs.fixed.Fixed.exchange.Goals as goal

pub counted-requires-clause-small : goal.counted-requires-clause-small
counted-requires-clause-small c =
    let cost : SFits w128 c.in-Some.cost = search rules in
    subst (λ (z : ℤ). IsAtMost z most_exchange_cost) (sym (to_z-of_z w128 c.in-Some.cost cost))
    (c.args.self.now.fits.small_costs c.args.a c.args.b c.in-Some.cost (sym c.cost.ensures ∙ c.in-Some.is))
