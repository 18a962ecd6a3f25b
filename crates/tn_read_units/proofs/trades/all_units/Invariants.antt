-- What the loops of `all_units` of `src/trades.rt` keep.
use Rattle.std.proofs.Common.{◌≡◌, ◌≤◌, ◌*◌, take}
use Rattle.tn_read_units.specs.Heads.{all_units}
use Rattle.tn_read_units.specs.Limits.{most_units_at_once}
use Rattle.tn_read_units.proofs.trades.all_units.Given as goal

abbrev pub invariant-loop-trade : goal.invariant-loop-trade
invariant-loop-trade l = record {
  sum : l.units ≡ all_units (take l.trade-index l.trades);
  few : l.units ≤ l.trade-index * most_units_at_once;
}
