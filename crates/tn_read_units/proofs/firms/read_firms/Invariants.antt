-- What the loops of `read_firms` of `src/firms.rt` keep.
use Rattle.std.proofs.Common.{◌≡◌, length, drop, []}
use Rattle.serde_json.specs.View.{items_view}
use Rattle.tn_read_shapes.specs.Reading.{each}
use Rattle.tn_read_units.specs.Firms.{one_firm}
use Rattle.tn_read_units.proofs.firms.read_firms.Given as goal

abbrev pub invariant-loop-item : goal.invariant-loop-item
invariant-loop-item l = record {
  count : length l.firms.firms ≡ l.item-index;
  rest : each (one_firm l.head) l.firms (items_view (drop l.item-index l.items))
      ≡ each (one_firm l.head) (record { sets = 0; firms = [] }) (items_view l.items);
}
