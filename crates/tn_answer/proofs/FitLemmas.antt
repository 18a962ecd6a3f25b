-- A price that is written fits the type that it is kept in.
use Rattle.std.proofs.Common.{◌≡◌, ℕ, ℤ, arith, subst, List, All, slice_get, Some, FitsSigned}
use Rattle.std.specs.Int.{w64}
use Rattle.std.proofs.lemmas.Int.{ints}
use Rattle.std.proofs.lemmas.Option.{slice_get_within, get_or_from_slice_get}
use mir.Syntax.{w128}
use mir.Val.{SFits}

pub wide : (z : ℤ) → FitsSigned w64 z → SFits w128 z
wide z h = omega (arith, ints, h)

pub all-there : {A : Type 0} (P : A → Type 0) (xs : List A) (k : ℕ) (x : A) → All P xs → slice_get xs k ≡ Some x → P x
all-there P xs k x all at = subst P (get_or_from_slice_get xs k x x at) (all k x (slice_get_within xs k x at))

pub fits : (prices : List ℤ) (k : ℕ) (price : ℤ) → All (FitsSigned w64) prices → slice_get prices k ≡ Some price
    → SFits w128 price
fits prices k price short at = wide price (all-there (FitsSigned w64) prices k price short at)
