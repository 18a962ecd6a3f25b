-- What the loops of `each_number` of `src/entries.rt` keep.
use Rattle.std.proofs.Common.{◌≡◌, length, drop}
use Rattle.serde_json.specs.View.{items_view}
use Rattle.tn_read_shapes.specs.Reading.{each}
use Rattle.tn_read_unit_parts.specs.Entries.{one_number}
use Rattle.tn_read_unit_parts.proofs.entries.each_number.Given as goal

abbrev pub invariant-loop-entry : goal.invariant-loop-entry
invariant-loop-entry l = record {
  places : length l.given ≡ length l.head.trades;
  rest : each (one_number l.head l.numbers) (record { named = l.named; numbers = l.given })
      (items_view (drop l.entry-index l.entries))
      ≡ each (one_number l.head l.numbers) (record { named = 0; numbers = l.fn.given }) (items_view l.entries);
}
