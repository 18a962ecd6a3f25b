-- What the look at the steps keeps.
use Rattle.std.proofs.Common.{◌≡◌, ◌<◌, ◌≤ℤ◌, ℕ, Some}
use Rattle.std.specs.Prelude.{slice_get}
use Rattle.tn_links.specs.declared.link.Step.{Step}
use Rattle.tn_links.proofs.checks.are_falling.Given as goal

-- later units of the first steps add no more
abbrev pub invariant-loop-k : goal.invariant-loop-k
invariant-loop-k l = (i j : ℕ) (a b : Step) → i < j → j < l.k → slice_get l.steps i ≡ Some a
    → slice_get l.steps j ≡ Some b → b.each ≤ℤ a.each
