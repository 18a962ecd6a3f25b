-- What the loops of `each_part` of `src/plan.rt` keep.
use Rattle.std.proofs.Common.{◌≡◌, length, drop, []}
use Rattle.serde_json.specs.View.{items_view}
use Rattle.tn_read_shapes.specs.Reading.{each}
use Rattle.tn_read_claims.specs.Planned.{one_part}
use Rattle.tn_read_claims.proofs.plan.each_part.Given as goal

abbrev pub invariant-loop-entry : goal.invariant-loop-entry
invariant-loop-entry l = record {
  count : length l.parts.items ≡ l.entry-index;
  rest : each (one_part l.head) l.parts.items (items_view (drop l.entry-index l.entries))
      ≡ each (one_part l.head) [] (items_view l.entries);
}
