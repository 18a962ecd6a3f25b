-- What the look at the labels keeps.
use Rattle.std.proofs.Common.{ℕ, ◌<◌}
use Rattle.tn_base.specs.Arcs.{IsAtMost}
use Rattle.tn_cycle.specs.Answers.{label_in}
use Rattle.tn_links.specs.Widths.{near_enough}
use Rattle.tn_links.proofs.searching.are_far.Given as goal

-- those so far are near
abbrev pub invariant-loop-v : goal.invariant-loop-v
invariant-loop-v l = (u : ℕ) → u < l.v → IsAtMost (label_in l.finder.labels u) near_enough
