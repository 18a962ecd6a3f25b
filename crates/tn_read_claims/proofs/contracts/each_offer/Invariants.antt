-- What the loops of `each_offer` of `src/contracts.rt` keep.
use Rattle.std.proofs.Common.{◌≡◌, drop}
use Rattle.serde_json.specs.View.{items_view}
use Rattle.tn_read_shapes.specs.Reading.{each}
use Rattle.tn_read_parts.specs.Lists.{list_place}
use Rattle.tn_read_claims.specs.Members.{no_offers, one_offer}
use Rattle.tn_read_claims.proofs.contracts.each_offer.Given as goal

abbrev pub invariant-loop-entry : goal.invariant-loop-entry
invariant-loop-entry l =
    each (one_offer l.head.names.trades (list_place l.at) l.limit) (record {
      named = l.named;
      contracts =
          l.contracts.items;
    }) (items_view (drop l.entry-index l.entries))
    ≡ each (one_offer l.head.names.trades (list_place l.at) l.limit) no_offers (items_view l.entries)
