-- What the loops of `all_kept` of `src/kept.rt` keep.
use Rattle.std.proofs.Common.{map}
use Rattle.tn_chain.proofs.KeptLemmas.{AreKeptBefore}
use Rattle.tn_chain.proofs.kept.all_kept.Given as goal

abbrev pub invariant-loop-f : goal.invariant-loop-f
invariant-loop-f g l =
    AreKeptBefore (map g.V.Valuation.firm l.market.firms) l.market.trades l.outcome.over l.outcome.contracts l.f
    l.kept.items
