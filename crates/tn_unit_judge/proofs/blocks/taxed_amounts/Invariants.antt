-- The amounts so far.
use Rattle.tn_unit_judge.proofs.OfferLemmas.{AreTaxedTo}
use Rattle.tn_unit_judge.proofs.blocks.taxed_amounts.Given as goal

abbrev pub invariant-loop-k : goal.invariant-loop-k
invariant-loop-k l = AreTaxedTo l.signed l.amounts l.k l.made.items
