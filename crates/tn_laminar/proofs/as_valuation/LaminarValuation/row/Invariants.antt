-- What the loops of `LaminarValuation::row` of `src/as_valuation.rt` keep.
use Rattle.tn_market.proofs.RowLemmas.{IsRowBelow}
use Rattle.tn_laminar.specs.Firms.{firm_of}
use Rattle.tn_laminar.proofs.as_valuation.LaminarValuation.row.Given as goal

abbrev pub invariant-loop-k : goal.invariant-loop-k
invariant-loop-k l = IsRowBelow (firm_of l.self).worth l.x l.wanted l.initial.steps l.k l.worths l.steps
