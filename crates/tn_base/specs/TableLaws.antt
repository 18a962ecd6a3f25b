-- What a table says of a firm.
use Rattle.std.specs.Prelude.{◌≡◌, ◌≢◌, ℕ, ◌<◌, ℤ, true, ◌↔◌, List, slice_get, Some, None}
use Rattle.tn_base.specs.Sets.{has}
use Rattle.tn_base.specs.Table.{buys_of, row_of}
use Rattle.tn_base.specs.declared.side.Side.{Side}
use Rattle.tn_base.specs.declared.side.Side.TheVariants.{Buy}

-- the first row of x has this number
pub record IsFirstRow (rows : List (ℕ × ℤ)) (x : ℕ) (amount : ℤ) : Type 0 where
  pub at : ℕ
  pub is : slice_get rows at ≡ Some (x, amount)
  pub first : (i : ℕ) (row : ℕ × ℤ) → i < at → slice_get rows i ≡ Some row → row.0 ≢ x

-- no row is of x
abbrev pub HasNoRow : List (ℕ × ℤ) → ℕ → Type 0
HasNoRow rows x = (i : ℕ) (row : ℕ × ℤ) → slice_get rows i ≡ Some row → row.0 ≢ x

pub record AreTables : Type 0 where
  -- a position is bought exactly where its side says so
  pub bought : (sides : List Side) (k : ℕ) → (has (buys_of sides) k ≡ true) ↔ (slice_get sides k ≡ Some Buy)
  -- a bundle has the number of its first row, and none exactly where it has no row
  pub listed : (rows : List (ℕ × ℤ)) (x : ℕ) (amount : ℤ) → (row_of rows x ≡ Some amount) ↔ IsFirstRow rows x amount
  pub unlisted : (rows : List (ℕ × ℤ)) (x : ℕ) → (row_of rows x ≡ None) ↔ HasNoRow rows x
