-- What the loops of `Valuation::row` of `src/valuation.rt` keep.
use Rattle.tn_market.proofs.RowLemmas.{IsRowBelow}
use Rattle.tn_market.proofs.valuation.Valuation.row.Given as goal

abbrev pub invariant-loop-k : goal.invariant-loop-k
invariant-loop-k g l = IsRowBelow (g.Self.Valuation.firm l.self).worth l.x l.wanted l.initial.steps l.k l.worths l.steps
