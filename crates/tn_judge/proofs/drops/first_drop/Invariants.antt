-- What the loops of `first_drop` of `src/drops.rt` keep.
use Rattle.std.proofs.Common.{map}
use Rattle.tn_judge.specs.Verdict.{AreKeptBefore}
use Rattle.tn_judge.proofs.drops.first_drop.Given as goal

abbrev pub invariant-loop-f : goal.invariant-loop-f
invariant-loop-f g l =
    AreKeptBefore (map g.V.Valuation.firm l.market.firms) l.market.trades l.outcome.over l.outcome.contracts l.f
