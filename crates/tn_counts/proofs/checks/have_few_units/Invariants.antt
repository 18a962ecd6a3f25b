-- What the count of units keeps.
use Rattle.std.proofs.Common.{◌≡◌, ◌≤◌, sum_by, take}
use Rattle.tn_counts.specs.Widths.{most_market_units}
use Rattle.tn_counts.specs.declared.trade.UnitTrade.{UnitTrade}
use Rattle.tn_counts.proofs.checks.have_few_units.Given as goal

-- the units of the first trades
abbrev pub invariant-loop-trade : goal.invariant-loop-trade
invariant-loop-trade l = record {
  units : l.units ≡ sum_by (λ (trade : UnitTrade). trade.units) (take l.trade-index l.trades);
  few : l.units ≤ most_market_units;
}
