-- What the loops of `surplus_of` of `src/surplus.rt` keep.
use Rattle.std.proofs.Common.{map, ◌+◌, ◌≤◌}
use Rattle.tn_price.proofs.SurplusLemmas.{AreAdded}
use Rattle.tn_price.proofs.surplus.surplus_of.Given as goal

abbrev pub invariant-loop-f : goal.invariant-loop-f
invariant-loop-f g l = AreAdded (map g.V.Valuation.firm l.market.firms) l.market.trades l.on l.f l.surplus
    × (l.steps ≤ l.initial.steps + l.f)
