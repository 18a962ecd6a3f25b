-- What the loops of `each_member` of `src/own.rt` keep.
use Rattle.std.proofs.Common.{◌≡◌, drop, []}
use Rattle.serde_json.specs.View.{items_view}
use Rattle.tn_read_shapes.specs.Reading.{each}
use Rattle.tn_read_units.specs.Own.{one_member}
use Rattle.tn_read_units.specs.Steps.{part_place}
use Rattle.tn_said.specs.declared.place.Word.TheVariants.{Trades}
use Rattle.tn_read_units.proofs.own.each_member.Given as goal

abbrev pub invariant-loop-reference : goal.invariant-loop-reference
invariant-loop-reference l = record {
  rest : each (one_member l.head l.at.firm (part_place l.at Trades))
      (l.members) (items_view (drop l.reference-index l.references))
      ≡ each (one_member l.head l.at.firm (part_place l.at Trades))
      (record { named = 0; trades = [] }) (items_view l.references);
}
