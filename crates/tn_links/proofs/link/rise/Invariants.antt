-- What the sum of what units add keeps.
use Rattle.std.proofs.Common.{◌≡◌, ◌-◌, ◌*◌, ◌≤◌, ◌+ℤ◌, drop}
use Rattle.tn_base.specs.Arcs.{IsAtMost}
use Rattle.tn_links.specs.Links.{rise}
use Rattle.tn_links.specs.Widths.{most_each}
use Rattle.tn_links.proofs.link.rise.Given as goal

-- the sum so far, and what the units that are left add by the rest
abbrev pub invariant-loop-step : goal.invariant-loop-step
invariant-loop-step l = record {
  fewer : l.left ≤ l.fn.units;
  rise : rise l.steps l.fn.units ≡ l.sum +ℤ rise (drop l.step-index l.steps) l.left;
  small : IsAtMost l.sum ((l.fn.units - l.left) * most_each);
}
