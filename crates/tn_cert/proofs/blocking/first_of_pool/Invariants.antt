-- What the loops of `first_of_pool` of `src/blocking.rt` keep.
use Rattle.std.proofs.Common.{map}
use Rattle.tn_cert.proofs.BlockingLemmas.{AreTakenBefore}
use Rattle.tn_cert.proofs.blocking.first_of_pool.Given as goal

abbrev pub invariant-loop-f : goal.invariant-loop-f
invariant-loop-f g l =
    AreTakenBefore (map g.V.Valuation.firm l.market.firms) l.market.trades l.outcome l.over l.offers l.f
