-- The offers so far.
use Rattle.tn_unit_judge.specs.Blocks.{AreOffersTo}
use Rattle.tn_unit_judge.proofs.blocks.offers_of.Given as goal

abbrev pub invariant-loop-trade : goal.invariant-loop-trade
invariant-loop-trade l = AreOffersTo l.signed l.sold l.prices l.trade l.offers.items
