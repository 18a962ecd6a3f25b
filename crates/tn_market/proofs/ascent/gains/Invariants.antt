-- What the loops of `gains` of `src/ascent.rt` keep.
use Rattle.tn_market.specs.Ascent.{AreGains}
use Rattle.tn_market.proofs.ascent.gains.Given as goal

abbrev pub invariant-loop-k : goal.invariant-loop-k
invariant-loop-k g l = AreGains (g.V.Valuation.firm l.firm).buys l.need l.prices l.k l.gains
