-- What the phases keep.
use Rattle.std.proofs.Common.{◌≡◌, ◌≤◌, length}
use Rattle.tn_links.specs.Flows.{IsKeptFlow}
use Rattle.tn_links.specs.Widths.{most_lot}
use Rattle.tn_links.proofs.searching.send_lots.Given as goal

abbrev pub invariant-loop-lot : goal.invariant-loop-lot
invariant-loop-lot l = record {
  fits : l.finder.nodes ≡ l.links.nodes;
  as_many : l.before.nodes ≡ l.links.nodes;
  labelled : length l.finder.labels ≡ l.links.nodes;
  kept : IsKeptFlow l.links.links.items l.levels;
  small : l.lot ≤ most_lot;
}

abbrev pub decreases-loop-lot : goal.decreases-loop-lot
decreases-loop-lot l = l.lot
