-- What the searches keep.
use Rattle.std.proofs.Common.{◌≡◌, length}
use Rattle.tn_links.specs.Flows.{IsKeptFlow}
use Rattle.tn_links.proofs.searching.mend_all.Given as goal

abbrev pub invariant-loop-j : goal.invariant-loop-j
invariant-loop-j l = record {
  fits : l.finder.nodes ≡ l.links.nodes;
  as_many : l.before.nodes ≡ l.links.nodes;
  labelled : length l.finder.labels ≡ l.links.nodes;
  kept : IsKeptFlow l.links.links.items l.levels;
}
