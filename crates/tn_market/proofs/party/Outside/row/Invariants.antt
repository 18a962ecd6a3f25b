-- What the loops of `Outside::row` of `src/party.rt` keep.
use Rattle.tn_market.specs.Outside.{outside}
use Rattle.tn_market.proofs.RowLemmas.{IsRowBelow}
use Rattle.tn_market.proofs.party.Outside.row.Given as goal

abbrev pub invariant-loop-k : goal.invariant-loop-k
invariant-loop-k g l = IsRowBelow (outside l.self.price).worth l.x l.wanted l.initial.steps l.k l.worths l.steps
