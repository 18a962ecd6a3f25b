-- What shows the clauses of `worth_at` of `src/surplus.rt`.
use Rattle.std.proofs.Common.{◌≡◌, ap, sym, subst, ◌∙◌, ℤ, Option, None, Some}
use Rattle.std.specs.Option.{IfSome}
use Rattle.std.proofs.lemmas.Option.{same_Some}
use Rattle.tn_base.specs.Arcs.{IsAtMost}
use Rattle.tn_market.specs.Widths.{most_limit}
use Rattle.tn_base.specs.Firm.{Firm}
use Rattle.tn_market.proofs.AscentLemmas.{smaller}
use Rattle.tn_model.specs.Network.{part}
use Rattle.tn_price.proofs.JudgeLemmas.{firm_is, part_within}
use Rattle.tn_price.proofs.surplus.worth_at.Goals as goal

pub value-requires : goal.value-requires
value-requires g c =
    part_within c.args.market.now.trades c.args.f (g.V.Valuation.firm c.firm.result.now).count c.args.on.now
    c.bundle_of-bundle.result
    (c.bundle_of-bundle.ensures c.firm.result.now c.firm.ensures)

pub returns-clause-worth : goal.returns-clause-worth
returns-clause-worth g c = λ firm is.
    let same = same_Some _ _
    (sym (firm_is g.V.Valuation.firm c.args.market.now.firms c.args.f c.firm.result.now c.firm.ensures) ∙ is) in
    subst (λ (x : Firm). c.value.result ≡ x.worth (part c.args.market.now.trades c.args.f x.count c.args.on.now)) same
    (c.value.ensures.worth ∙ ap (g.V.Valuation.firm c.firm.result.now).worth
    (c.bundle_of-bundle.ensures c.firm.result.now c.firm.ensures))

pub returns-clause-small : goal.returns-clause-small
returns-clause-small g c = by c.value.result c.value.ensures.worth
  where
    by : (o : Option ℤ) → o ≡ (g.V.Valuation.firm c.firm.result.now).worth c.bundle_of-bundle.result
        → IfSome o (λ worth. IsAtMost worth most_limit)
    by None is = tt
    by (Some worth) is =
        smaller worth (g.V.Valuation.limit c.firm.result.now) most_limit
        (g.met.V.Valuation.lawful c.firm.result.now).small_limit
        ((g.met.V.Valuation.lawful c.firm.result.now).within c.bundle_of-bundle.result worth (sym is))
