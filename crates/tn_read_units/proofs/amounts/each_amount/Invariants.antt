-- What the loops of `each_amount` of `src/amounts.rt` keep.
use Rattle.std.proofs.Common.{◌≡◌, drop, []}
use Rattle.serde_json.specs.View.{items_view}
use Rattle.tn_read_shapes.specs.Reading.{each}
use Rattle.tn_read_units.specs.Firms.{amounts_place, one_amount}
use Rattle.tn_read_units.proofs.amounts.each_amount.Given as goal

abbrev pub invariant-loop-entry : goal.invariant-loop-entry
invariant-loop-entry l = record {
  rest : each (one_amount l.head l.f (amounts_place l.f))
      (l.amounts) (items_view (drop l.entry-index l.entries))
      ≡ each (one_amount l.head l.f (amounts_place l.f))
      (record { named = 0; entries = [] }) (items_view l.entries);
}
