-- What the searches keep, and why they end.
use Rattle.std.proofs.Common.{◌≡◌, length}
use Rattle.tn_links.specs.Flows.{IsKeptFlow}
use Rattle.tn_links.proofs.GainLemmas.{gain_left}
use Rattle.tn_links.proofs.searching.mend.Given as goal

abbrev pub invariant-loop-node : goal.invariant-loop-node
invariant-loop-node l = record {
  fits : l.finder.nodes ≡ l.links.nodes;
  as_many : l.before.nodes ≡ l.links.nodes;
  labelled : length l.finder.labels ≡ l.links.nodes;
  kept : IsKeptFlow l.links.links.items l.levels;
}

-- each lot that is sent gains
abbrev pub decreases-loop-node : goal.decreases-loop-node
decreases-loop-node l = gain_left l.links.links.items l.levels
