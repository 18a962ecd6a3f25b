-- What the loops of `each_step` of `src/steps.rt` keep.
use Rattle.std.proofs.Common.{◌≡◌, length, drop, []}
use Rattle.std.specs.Prelude.{All}
use Rattle.serde_json.specs.View.{items_view}
use Rattle.tn_read_shapes.specs.Reading.{each}
use Rattle.tn_read_units.specs.Steps.{IsStep, one_step}
use Rattle.tn_read_units.proofs.steps.each_step.Given as goal

abbrev pub invariant-loop-entry : goal.invariant-loop-entry
invariant-loop-entry l = record {
  count : length l.steps.items ≡ l.entry-index;
  sound : All IsStep l.steps.items;
  rest : each (one_step l.at l.word) l.steps.items (items_view (drop l.entry-index l.entries))
      ≡ each (one_step l.at l.word) [] (items_view l.entries);
}
