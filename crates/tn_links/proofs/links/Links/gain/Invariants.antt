-- What the sum of gains keeps.
use Rattle.std.proofs.Common.{◌≡◌, ◌*◌, ◌+ℤ◌, drop}
use Rattle.tn_base.specs.Arcs.{IsAtMost}
use Rattle.tn_links.specs.Flows.{total_gain}
use Rattle.tn_links.specs.Widths.{most_rise}
use Rattle.tn_links.proofs.links.Links.gain.Given as goal

-- the sum so far, and what the rest gains
abbrev pub invariant-loop-j : goal.invariant-loop-j
invariant-loop-j l = record {
  sum : total_gain l.self.links.items l.levels ≡ l.total +ℤ total_gain (drop l.j l.self.links.items) (drop l.j l.levels);
  small : IsAtMost l.total (l.j * (2 * most_rise));
}
