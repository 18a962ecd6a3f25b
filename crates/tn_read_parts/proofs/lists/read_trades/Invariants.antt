-- What the loops of `read_trades` of `src/lists.rt` keep.
use Rattle.std.proofs.Common.{◌≡◌, drop}
use Rattle.serde_json.specs.View.{items_view}
use Rattle.tn_read_shapes.specs.Reading.{each}
use Rattle.tn_read_parts.specs.Lists.{list_place, one_on}
use Rattle.tn_read_parts.proofs.lists.read_trades.Given as goal

abbrev pub invariant-loop-reference : goal.invariant-loop-reference
invariant-loop-reference l =
    each (one_on l.head.names.trades (list_place l.at)) l.on (items_view (drop l.reference-index l.references))
    ≡ each (one_on l.head.names.trades (list_place l.at)) 0 (items_view l.references)
