-- What the loops of `signed_by` of `src/signed.rt` keep.
use Rattle.tn_residual.specs.Held.{HoldsSigned}
use Rattle.tn_residual.proofs.signed.signed_by.Given as goal

abbrev pub invariant-loop-k : goal.invariant-loop-k
invariant-loop-k g l = HoldsSigned l.market.trades l.outcome.contracts l.f l.k l.signed l.prices
