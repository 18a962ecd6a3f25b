-- What the loops of `first_bend` of `src/faults.rt` keep.
use Rattle.std.proofs.Common.{ℕ, ◌<◌}
use Rattle.tn_laminar.specs.Faults.{IsBend}
use Rattle.tn_laminar.proofs.faults.first_bend.Given as goal

abbrev pub invariant-loop-place : goal.invariant-loop-place
invariant-loop-place l = (k : ℕ) → k < l.place → IsBend l.numbers k → ⊥
