-- What shows the clauses of `weigh` of `src/equilibria.rt`.
use Rattle.std.proofs.Common.{rules, sym, subst, ap, ◌∙◌, map, ℤ, Some}
use Rattle.std.proofs.lemmas.Int.{to_z-of_z}
use mir.Syntax.{w128}
use mir.Val.{SFits}
use Rattle.tn_model.specs.Prices.{price_at}
use Rattle.tn_market.specs.Judged.{IsFirstBettered}
use Rattle.tn_price.specs.Checks.{Checks}
use Rattle.tn_price.specs.declared.check.Check.TheVariants.{Equilibrium}
use Rattle.tn_cert.proofs.WeighLemmas.{within_firms, better_lacks}
use Rattle.tn_cert.proofs.equilibria.weigh.Goals as goal

pub returns-in-Equilibrium : goal.returns-in-Equilibrium
returns-in-Equilibrium g c =
    let scaled : SFits w128 c.args.scale = c.ranges.scale in
    let fits : SFits w128 c.in-Equilibrium.surplus = search rules in
    let judged =
    subst (λ (scale : ℤ). Checks (map g.V.Valuation.firm c.args.market.now.firms) c.args.market.now.trades scale
    c.args.on.now (price_at c.args.prices.now) (Equilibrium c.in-Equilibrium.surplus))
    (to_z-of_z w128 c.args.scale scaled) c.in-Equilibrium.ensures in
    (judged.0, judged.1 ∙ ap Some (sym (to_z-of_z w128 c.in-Equilibrium.surplus fits)))

pub trades_in-requires : goal.trades_in-requires
trades_in-requires g c =
    within_firms g.V.Valuation.firm c.args.market.now.firms c.in-Better.firm c.in-Better.ensures.firm
    c.in-Better.ensures.is

pub returns-in_ok-bundle-in-Better : goal.returns-in_ok-bundle-in-Better
returns-in_ok-bundle-in-Better g c =
    let scaled : SFits w128 c.args.scale = c.ranges.scale in
    let first = subst (λ (scale : ℤ). IsFirstBettered (map g.V.Valuation.firm c.args.market.now.firms)
    c.args.market.now.trades scale c.args.on.now (price_at c.args.prices.now) c.in-Better.firm c.in-Better.bundle
    c.in-Better.gain)
    (to_z-of_z w128 c.args.scale scaled) c.in-Better.ensures in
    better_lacks g.V.Valuation.firm c.args.market.now.firms c.args.market.now.trades c.args.scale c.args.on.now
    (price_at c.args.prices.now) c.in-Better.firm c.in-Better.bundle c.in-Better.gain
    c.in_ok-bundle-in-Better.bundle first c.in_ok-bundle-in-Better.ensures
