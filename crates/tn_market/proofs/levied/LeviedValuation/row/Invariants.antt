-- What the loops of `LeviedValuation::row` of `src/levied.rt` keep.
use Rattle.tn_market.specs.Levied.{levied}
use Rattle.tn_market.proofs.RowLemmas.{IsRowChanged}
use Rattle.tn_market.proofs.levied.LeviedValuation.row.Given as goal

abbrev pub invariant-loop-k : goal.invariant-loop-k
invariant-loop-k g l =
    IsRowChanged (levied l.self.scale l.self.taxed l.self.tax (g.V.Valuation.firm l.self.inner.now)).worth
    (g.V.Valuation.firm l.self.inner.now).worth
    l.x l.wanted l.k l.worths
