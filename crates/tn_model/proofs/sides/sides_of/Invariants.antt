-- What the loops of `sides_of` of `src/sides.rt` keep.
use Rattle.std.proofs.Common.{◌≡◌, take}
use Rattle.tn_model.specs.InOrder.{sides_of}
use Rattle.tn_model.proofs.sides.sides_of.Given as goal

abbrev pub invariant-loop-trade : goal.invariant-loop-trade
invariant-loop-trade l = l.sides.items ≡ sides_of (take l.trade-index l.trades) l.f
