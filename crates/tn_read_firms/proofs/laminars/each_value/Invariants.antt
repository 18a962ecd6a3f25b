-- What the loops of `each_value` of `src/laminars.rt` keep.
use Rattle.std.proofs.Common.{◌≡◌, length, drop, []}
use Rattle.serde_json.specs.View.{items_view}
use Rattle.tn_read_shapes.specs.Reading.{each}
use Rattle.tn_read_firms.specs.Laminars.{one_value}
use Rattle.tn_read_firms.proofs.laminars.each_value.Given as goal

abbrev pub invariant-loop-value : goal.invariant-loop-value
invariant-loop-value l = record {
  count : length l.numbers.items ≡ l.value-index;
  rest : each (one_value l.head.limits l.f l.s) (l.numbers.items) (items_view (drop l.value-index l.values))
      ≡ each (one_value l.head.limits l.f l.s) ([]) (items_view l.values);
}
