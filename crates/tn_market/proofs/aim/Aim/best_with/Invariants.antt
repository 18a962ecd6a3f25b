-- What the loops of `Aim::best_with` of `src/aim.rt` keep.
use Rattle.tn_market.specs.Ascent.{aimed, TriesOthers}
use Rattle.tn_market.proofs.aim.Aim.best_with.Given as goal

abbrev pub invariant-loop-k : goal.invariant-loop-k
invariant-loop-k g l =
    TriesOthers (aimed l.self.allowed l.self.scale l.self.gains.now (g.V.Valuation.firm l.self.firm.now)).worth
    l.x.bundle l.others l.k l.fn.best l.best
