-- What the loops of `read_pairs` of `src/dealers.rt` keep.
use Rattle.std.proofs.Common.{◌≡◌, length, drop, []}
use Rattle.std.specs.Prelude.{All}
use Rattle.serde_json.specs.View.{items_view}
use Rattle.tn_base.specs.Table.{buys_of}
use Rattle.tn_dealer.specs.Pairs.{AreUnrepeated, IsOwnPair}
use Rattle.tn_read_shapes.specs.Reading.{each}
use Rattle.tn_read_references.specs.Ordered.{sides_of}
use Rattle.tn_read_firms.specs.Dealers.{one_pair}
use Rattle.tn_read_firms.proofs.dealers.read_pairs.Given as goal

abbrev pub invariant-loop-entry : goal.invariant-loop-entry
invariant-loop-entry l = record {
  own : All (IsOwnPair (length (sides_of l.head.ends l.f)) (buys_of (sides_of l.head.ends l.f))) l.pairs.items;
  different : AreUnrepeated l.pairs.items;
  rest : each (one_pair l.head l.f) (l.pairs.items) (items_view (drop l.entry-index l.entries))
      ≡ each (one_pair l.head l.f) ([]) (items_view l.entries);
}
