-- What the loops of `each_value` of `src/sets.rt` keep.
use Rattle.std.proofs.Common.{◌≡◌, length, drop, []}
use Rattle.std.specs.Prelude.{All}
use Rattle.serde_json.specs.View.{items_view}
use Rattle.tn_base.specs.Arcs.{IsAtMost}
use Rattle.tn_read_shapes.specs.Reading.{each}
use Rattle.tn_read_units.specs.Limits.{most_number}
use Rattle.tn_read_units.specs.Sets.{one_value}
use Rattle.tn_read_units.proofs.sets.each_value.Given as goal

abbrev pub invariant-loop-value : goal.invariant-loop-value
invariant-loop-value l = record {
  count : length l.numbers.items ≡ l.value-index;
  small : All (λ number. IsAtMost number most_number) l.numbers.items;
  rest : each (one_value l.at) l.numbers.items (items_view (drop l.value-index l.values))
      ≡ each (one_value l.at) [] (items_view l.values);
}
