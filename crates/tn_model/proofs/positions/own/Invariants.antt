-- What the loops of `own` of `src/positions.rt` keep.
use Rattle.std.proofs.Common.{◌≡◌, ◌+◌, drop}
use Rattle.tn_model.specs.Network.{own}
use Rattle.tn_model.proofs.positions.own.Given as goal

abbrev pub invariant-loop-trade : goal.invariant-loop-trade
invariant-loop-trade l = record {
  count : l.t ≡ l.trade-index;
  rest : own l.ends l.f l.k ≡ l.t + own (drop l.trade-index l.ends) l.f l.k;
}
