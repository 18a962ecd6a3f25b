-- What the look at the arcs keeps.
use Rattle.std.proofs.Common.{◌≡◌, ◌<◌, ℕ, Some}
use Rattle.std.specs.Prelude.{slice_get}
use Rattle.tn_base.specs.Arcs.{IsAtMost}
use Rattle.tn_dimacs.specs.declared.problem.Arc.{Arc}
use Rattle.tn_links.specs.Widths.{most_each}
use Rattle.tn_dimacs.proofs.least.are_cheap.Given as goal

-- no unit over the first arcs costs much
abbrev pub invariant-loop-arc : goal.invariant-loop-arc
invariant-loop-arc l = (i : ℕ) (arc : Arc) → i < l.arc-index → slice_get l.arcs i ≡ Some arc
    → IsAtMost arc.cost most_each
