-- What the halving keeps.
use Rattle.std.proofs.Common.{◌≡◌, length}
use Rattle.tn_links.proofs.searching.halve_labels.Given as goal

abbrev pub invariant-loop-v : goal.invariant-loop-v
invariant-loop-v l = record {
  fits : l.finder.nodes ≡ l.nodes;
  labelled : length l.finder.labels ≡ l.nodes;
}
