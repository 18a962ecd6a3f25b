-- What the loops of `unsigned_of` of `src/parties.rt` keep.
use Rattle.std.proofs.Common.{◌≡◌, length}
use Rattle.tn_model.specs.Network.{part}
use Rattle.tn_residual.specs.Residual.{unsigned}
use Rattle.tn_residual.proofs.parties.unsigned_of.Given as goal

abbrev pub invariant-loop-k : goal.invariant-loop-k
invariant-loop-k g l = l.unsigned ≡ part l.market.trades l.f l.k (unsigned (length l.market.trades) l.outcome.contracts)
