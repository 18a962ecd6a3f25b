-- What the loops of `count_own` of `src/sides.rt` keep.
use Rattle.std.proofs.Common.{◌≡◌, ◌≤◌, length, take}
use Rattle.tn_model.specs.InOrder.{sides_of}
use Rattle.tn_model.proofs.sides.count_own.Given as goal

abbrev pub invariant-loop-trade : goal.invariant-loop-trade
invariant-loop-trade l = record {
  counted : l.count ≡ length (sides_of (take l.trade-index l.trades) l.f);
  few : l.count ≤ l.trade-index;
}
