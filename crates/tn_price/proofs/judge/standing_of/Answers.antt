-- What shows the clauses of `standing_of` of `src/judge.rt`.
use Rattle.std.proofs.Common.{subst, ℤ, take}
use Rattle.std.proofs.lemmas.Int.{to_z-of_z}
use mir.Syntax.{w128}
use mir.Val.{SFits}
use Rattle.tn_base.specs.Firm.{utility}
use Rattle.tn_model.specs.Prices.{price_at}
use Rattle.tn_price.specs.Standings.{Stands}
use Rattle.tn_price.proofs.JudgeLemmas.{stands_there, part_within}
use Rattle.tn_price.proofs.judge.standing_of.Goals as goal

pub standing-requires-clause-own : goal.standing-requires-clause-own
standing-requires-clause-own g c =
    part_within c.args.market.now.trades c.args.f (g.V.Valuation.firm c.firm-firm.result.now).count c.args.on.now
    c.bundle_of-own.result
    (c.bundle_of-own.ensures c.firm-firm.result.now c.firm-firm.ensures)

pub returns : goal.returns
returns g c =
    let firm = g.V.Valuation.firm c.firm-firm.result.now in
    let fits : SFits w128 c.args.over = c.ranges.over in
    let stands =
    subst (λ (scale : ℤ). Stands firm.worth (utility scale
    (price_at (take c.trades-n.result c.own_prices-own_prices.result)) firm) c.bundle_of-own.result
    c.standing.result)
    (to_z-of_z w128 c.args.over fits) c.standing.ensures in
    stands_there g.V.Valuation.firm c.args.market.now.firms c.args.market.now.trades c.args.over c.args.on.now
    (price_at c.args.prices.now) c.args.f
    c.trades-n.result c.bundle_of-own.result c.own_prices-own_prices.result c.standing.result c.firm-firm.result.now
    c.firm-firm.ensures
    c.trades-n.ensures.count (c.bundle_of-own.ensures c.firm-firm.result.now c.firm-firm.ensures)
    c.own_prices-own_prices.ensures stands
