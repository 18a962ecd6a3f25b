-- What the loops of `each_own` of `src/own_lists.rt` keep.
use Rattle.std.proofs.Common.{◌≡◌, ◌<◌, ◌^◌, length, drop}
use Rattle.serde_json.specs.View.{items_view}
use Rattle.tn_read_shapes.specs.Reading.{each}
use Rattle.tn_read_references.specs.Ordered.{sides_of}
use Rattle.tn_read_references.specs.References.{own_reference, part_place}
use Rattle.tn_read_references.proofs.own_lists.each_own.Given as goal

abbrev pub invariant-loop-reference : goal.invariant-loop-reference
invariant-loop-reference l = record {
  own : l.bundle < 2 ^ length (sides_of l.head.ends l.part.firm);
  rest : each (own_reference l.head l.part.firm (part_place l.part.firm l.part.at)) l.bundle
      (items_view (drop l.reference-index l.references)) ≡ each
      (own_reference l.head l.part.firm (part_place l.part.firm l.part.at)) 0 (items_view l.references);
}
