-- What the loops of `each_trade` of `src/trades.rt` keep.
use Rattle.std.proofs.Common.{◌≡◌, length, drop, []}
use Rattle.std.specs.Prelude.{All}
use Rattle.serde_json.specs.View.{items_view}
use Rattle.tn_read_shapes.specs.Reading.{each}
use Rattle.tn_read_units.specs.Trades.{IsUnitTrade, one_trade}
use Rattle.tn_read_units.proofs.trades.each_trade.Given as goal

abbrev pub invariant-loop-item : goal.invariant-loop-item
invariant-loop-item l = record {
  named : length l.names.trades ≡ l.item-index;
  count : length l.trades.items ≡ l.item-index;
  firms : l.names.firms ≡ l.initial.names.firms;
  sound : All (IsUnitTrade (length l.names.firms)) l.trades.items;
  rest : each one_trade (record { names = l.names; trades = l.trades.items }) (items_view (drop l.item-index l.items))
      ≡ each one_trade (record { names = l.initial.names; trades = [] }) (items_view l.items);
}
