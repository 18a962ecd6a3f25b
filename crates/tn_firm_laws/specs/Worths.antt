-- What a bundle is worth at least.
use Rattle.std.specs.Prelude.{◌≡◌, ℕ, ℤ, ◌≤ℤ◌, Option, Some}

-- the bundle is possible, and worth at least this
pub record IsWorth (worth : ℕ → Option ℤ) (x : ℕ) (a : ℤ) : Type 0 where
  pub value : ℤ
  pub is : worth x ≡ Some value
  pub enough : a ≤ℤ value
