-- What the loops of `read_sets` of `src/sets.rt` keep.
use Rattle.std.proofs.Common.{◌≡◌, length, drop, []}
use Rattle.serde_json.specs.View.{items_view}
use Rattle.tn_read_shapes.specs.Reading.{each}
use Rattle.tn_read_units.specs.Sets.{one_set}
use Rattle.tn_read_units.proofs.sets.read_sets.Given as goal

abbrev pub invariant-loop-item : goal.invariant-loop-item
invariant-loop-item l = record {
  count : length l.sets.items ≡ l.item-index;
  rest : each (one_set l.head l.f)
      (l.sets.items) (items_view (drop l.item-index l.items))
      ≡ each (one_set l.head l.f)
      ([]) (items_view l.items);
}
