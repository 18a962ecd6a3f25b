-- What the loops of `first_mispriced` of `src/completing.rt` keep.
use Rattle.tn_model.specs.Prices.{price_at}
use Rattle.tn_cert.specs.Reasons.{AgreeBefore}
use Rattle.tn_cert.proofs.completing.first_mispriced.Given as goal

abbrev pub invariant-loop-k : goal.invariant-loop-k
invariant-loop-k l = AgreeBefore l.contracts (price_at l.prices) l.k
