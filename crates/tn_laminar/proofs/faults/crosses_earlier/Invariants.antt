-- What the loops of `crosses_earlier` of `src/faults.rt` keep.
use Rattle.std.proofs.Common.{ℕ, ◌<◌, ◌≡◌}
use Rattle.std.specs.Prelude.{slice_get, Some}
use Rattle.tn_firm_laws.specs.Nested.{Cross}
use Rattle.tn_laminar.specs.declared.set.LaminarSet.{LaminarSet}
use Rattle.tn_laminar.proofs.faults.crosses_earlier.Given as goal

abbrev pub invariant-loop-j : goal.invariant-loop-j
invariant-loop-j l = (j : ℕ) (earlier set : LaminarSet) → j < l.j → slice_get l.sets j ≡ Some earlier
    → slice_get l.sets l.k ≡ Some set
    → Cross earlier.members set.members → ⊥
