-- What the rounds keep, and why they end.
use Rattle.std.proofs.Common.{◌≡◌}
use Rattle.tn_links.specs.Flows.{IsKeptFlow}
use Rattle.tn_links.proofs.GainLemmas.{gain_left}
use Rattle.tn_links.proofs.settling.settle_units.Given as goal

abbrev pub invariant-loop : goal.invariant-loop
invariant-loop l = record {
  fits : l.finder.nodes ≡ l.links.nodes;
  kept : IsKeptFlow l.links.links.items l.levels;
}

-- each round gains
abbrev pub decreases-loop : goal.decreases-loop
decreases-loop l = gain_left l.links.links.items l.levels
