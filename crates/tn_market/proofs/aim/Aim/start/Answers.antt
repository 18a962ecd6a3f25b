-- What shows the clauses of `Aim::start` of `src/aim.rt`.
use Rattle.tn_market.proofs.AscentLemmas.{starts}
use Rattle.tn_market.proofs.aim.Aim.start.Goals as goal

pub unwrap-requires : goal.unwrap-requires
unwrap-requires g c =
    starts c.args.self.now.allowed c.args.self.now.scale c.args.self.now.gains.now
    (g.V.Valuation.firm c.args.self.now.firm.now) c.empty-bundle.result c.value-2.result
    (g.met.V.Valuation.lawful c.args.self.now.firm.now).empty_is_possible c.empty-bundle.ensures c.value-2.ensures.value
