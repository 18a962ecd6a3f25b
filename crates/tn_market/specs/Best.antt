-- Best bundles among those that contain wanted positions and have no others than these and some free ones.
use Rattle.std.specs.Prelude.{◌≡◌, ℕ, ℤ, ◌≤ℤ◌, Option, Some, None, true}
use Rattle.tn_base.specs.Sets.{has, union}

-- each member of x is a member of y
abbrev pub IsSubset : ℕ → ℕ → Type 0
IsSubset x y = (k : ℕ) → has x k ≡ true → has y k ≡ true

-- x has all that is needed, and beside it only what is free
abbrev pub IsBetween : ℕ → ℕ → ℕ → Type 0
IsBetween need free x = IsSubset need x × IsSubset x (union need free)

-- x has all that is needed, beside it only what is free, and this value, and no other such bundle has more
pub record IsBestBetween (need free : ℕ) (value_of : ℕ → Option ℤ) (x : ℕ) (value : ℤ) : Type 0 where
  pub is : value_of x ≡ Some value
  pub between : IsBetween need free x
  pub most : (y : ℕ) (other : ℤ) → IsBetween need free y → value_of y ≡ Some other → other ≤ℤ value

-- a best bundle with its value, or none where no such bundle is possible
abbrev pub GivesBest : ℕ → ℕ → (ℕ → Option ℤ) → Option (ℕ × ℤ) → Type 0
GivesBest need free value_of (Some found) = IsBestBetween need free value_of found.0 found.1
GivesBest need free value_of None = (y : ℕ) → IsBetween need free y → value_of y ≡ None
