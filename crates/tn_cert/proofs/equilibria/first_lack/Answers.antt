-- What shows the clauses of `first_lack` of `src/equilibria.rt`.
use Rattle.std.proofs.Common.{subst, map, ℤ}
use Rattle.std.proofs.lemmas.Int.{to_z-of_z}
use mir.Syntax.{w128}
use mir.Val.{SFits}
use Rattle.tn_model.specs.Prices.{price_at}
use Rattle.tn_cert.specs.Replays.{Weighs}
use Rattle.tn_cert.proofs.equilibria.first_lack.Goals as goal

pub returns-in-Ok : goal.returns-in-Ok
returns-in-Ok g c =
    let scaled : SFits w128 c.args.scale = c.ranges.scale in
    let weighed =
    subst (λ (scale : ℤ). Weighs (map g.V.Valuation.firm c.args.market.now.firms) c.args.market.now.trades scale
    c.args.on.now (price_at c.args.prices.now) c.in_ok-weigh.field-0)
    (to_z-of_z w128 c.args.scale scaled) c.in_ok-weigh.ensures in
    (subst (Weighs (map g.V.Valuation.firm c.args.market.now.firms) c.args.market.now.trades c.args.scale c.args.on.now
    (price_at c.args.prices.now)) c.in-Ok.is weighed).0
