-- What the loops of `read_trades` of `src/trades.rt` keep.
use Rattle.std.proofs.Common.{◌≡◌, length, drop, []}
use Rattle.serde_json.specs.View.{items_view}
use Rattle.tn_read_shapes.specs.Reading.{each}
use Rattle.tn_read_references.specs.Ordered.{AreInOrder}
use Rattle.tn_read_head.specs.Counts.{AreOwnCounts}
use Rattle.tn_read_head.specs.Naming.{one_trade}
use Rattle.tn_read_head.proofs.trades.read_trades.Given as goal

abbrev pub invariant-loop-trade : goal.invariant-loop-trade
invariant-loop-trade l = record {
  named : length l.names.trades ≡ l.trade-index;
  count : length l.ends.items ≡ l.trade-index;
  counted : AreOwnCounts (length l.names.firms) l.ends.items l.counts;
  firms : l.names.firms ≡ l.initial.names.firms;
  order : AreInOrder (length l.names.firms) l.ends.items;
  rest : each one_trade (record { names = l.names; ends = l.ends.items }) (items_view (drop l.trade-index l.trades))
      ≡ each one_trade (record { names = l.initial.names; ends = [] }) (items_view l.trades);
}
