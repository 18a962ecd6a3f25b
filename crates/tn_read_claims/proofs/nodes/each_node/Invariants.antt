-- What the loops of `each_node` of `src/nodes.rt` keep.
use Rattle.std.proofs.Common.{◌≡◌, length, drop, []}
use Rattle.serde_json.specs.View.{items_view}
use Rattle.tn_read_shapes.specs.Reading.{each}
use Rattle.tn_read_claims.specs.Members.{one_node}
use Rattle.tn_read_claims.proofs.nodes.each_node.Given as goal

abbrev pub invariant-loop-value : goal.invariant-loop-value
invariant-loop-value l = record {
  count : length l.nodes.items ≡ l.value-index;
  rest : each (one_node l.head.names.trades) l.nodes.items (items_view (drop l.value-index l.values))
      ≡ each (one_node l.head.names.trades) [] (items_view l.values);
}
