-- What the loops of `read_rows` of `src/rows.rt` keep.
use Rattle.std.proofs.Common.{◌≡◌, ◌^◌, length, drop}
use Rattle.serde_json.specs.View.{items_view}
use Rattle.tn_exchange.specs.Rows.{without_rows}
use Rattle.tn_read_shapes.specs.Reading.{each}
use Rattle.tn_read_references.specs.Ordered.{sides_of}
use Rattle.tn_read_firms.specs.Tables.{filled_count, one_row}
use Rattle.tn_read_firms.proofs.rows.read_rows.Given as goal

abbrev pub invariant-loop-row : goal.invariant-loop-row
invariant-loop-row l = record {
  sides : l.table.sides ≡ sides_of l.head.ends l.f;
  places : length l.table.rows ≡ 2 ^ length l.table.sides;
  filled : l.count ≡ filled_count l.table.rows;
  rest : each (one_row l.head l.f) (record { count = l.count; table = l.table }) (items_view (drop l.row-index l.rows))
      ≡ each (one_row l.head l.f) (record { count = 0; table = without_rows (sides_of l.head.ends l.f) })
      (items_view l.rows);
}
