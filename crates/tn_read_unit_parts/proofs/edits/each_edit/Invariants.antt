-- What the loops of `each_edit` of `src/edits.rt` keep.
use Rattle.std.proofs.Common.{◌≡◌, length, drop, []}
use Rattle.serde_json.specs.View.{items_view}
use Rattle.tn_read_shapes.specs.Reading.{each}
use Rattle.tn_read_unit_parts.specs.Edited.{one_edit}
use Rattle.tn_read_unit_parts.proofs.edits.each_edit.Given as goal

abbrev pub invariant-loop-entry : goal.invariant-loop-entry
invariant-loop-entry l = record {
  count : length l.edits.items ≡ l.entry-index;
  rest : each (one_edit l.head) l.edits.items (items_view (drop l.entry-index l.entries))
      ≡ each (one_edit l.head) [] (items_view l.entries);
}
