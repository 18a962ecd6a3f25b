-- What the loops of `is_repeated` of `src/repeated.rt` keep.
use Rattle.std.proofs.Common.{ℕ, ◌<◌, ◌≡◌}
use Rattle.std.specs.Prelude.{slice_get, Some}
use Rattle.tn_dealer.specs.declared.pair.Pair.{Pair}
use Rattle.tn_dealer.proofs.repeated.is_repeated.Given as goal

abbrev pub invariant-loop-j : goal.invariant-loop-j
invariant-loop-j l = (j : ℕ) (earlier pair : Pair) → j < l.j → slice_get l.pairs j ≡ Some earlier
    → slice_get l.pairs l.k ≡ Some pair
    → earlier.buy ≡ pair.buy → earlier.sell ≡ pair.sell → ⊥
