-- What the loops of `amounts_by_trade` of `src/market.rt` keep.
use Rattle.std.proofs.Common.{◌≡◌, ℕ, ◌<◌, length}
use Rattle.tn_counts.specs.Counts.{trade_at}
use Rattle.tn_counts.specs.Laminar.{amounts_at}
use Rattle.tn_read_units.specs.Placed.{amounts_for}
use Rattle.tn_read_units.proofs.market.amounts_by_trade.Given as goal

abbrev pub invariant-loop-t : goal.invariant-loop-t
invariant-loop-t l = record {
  count : length l.amounts.items ≡ l.t;
  each : (k : ℕ) → k < l.t → amounts_at l.amounts.items k ≡ amounts_for l.firms k (trade_at l.trades k);
}
