-- What the loops of `read_entries` of `src/lists.rt` keep.
use Rattle.std.proofs.Common.{◌≡◌, length, drop}
use Rattle.serde_json.specs.View.{items_view}
use Rattle.tn_read_shapes.specs.Reading.{each}
use Rattle.tn_read_parts.specs.Lists.{list_place, one_price}
use Rattle.tn_read_parts.proofs.lists.read_entries.Given as goal

abbrev pub invariant-loop-entry : goal.invariant-loop-entry
invariant-loop-entry l = record {
  places : length l.prices ≡ length l.head.names.trades;
  rest : each (one_price l.head.names.trades (list_place l.at) l.limit) (record { named = l.named; numbers = l.prices })
      (items_view (drop l.entry-index l.entries)) ≡ each (one_price l.head.names.trades (list_place l.at) l.limit)
      (record { named = 0; numbers = l.fn.prices }) (items_view l.entries);
}
