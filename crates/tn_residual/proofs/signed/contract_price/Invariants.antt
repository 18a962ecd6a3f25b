-- What the loops of `contract_price` of `src/signed.rt` keep.
use Rattle.tn_residual.proofs.HeldLemmas.{NoneOn}
use Rattle.tn_residual.proofs.signed.contract_price.Given as goal

abbrev pub invariant-loop-k : goal.invariant-loop-k
invariant-loop-k l = NoneOn l.contracts l.t l.k
