-- A table by bundle number, and the firm that it is.
use Rattle.std.specs.Prelude.{◌≡◌, ℕ, ◌^◌, ◌≤◌, nat_lt, ℤ, if◌then◌else◌, List, [], ◌∷◌, length, slice_set, replicate, Option, Some, None, IsSome}
use Rattle.std.specs.List.{slice_index_or}
use Rattle.tn_base.specs.Arcs.{IsAtMost}
use Rattle.tn_base.specs.Firm.{Firm}
use Rattle.tn_base.specs.Table.{buys_of, worth_by_row}
use Rattle.tn_base.specs.declared.side.Side.{Side}
use Rattle.tn_exchange.specs.Widths.{most_table_trades}
use Rattle.tn_base.specs.Widths.{most_amount}

-- the sides of the own trades, and the rows by bundle number
pub record TableRows : Type 0 where
  pub sides : List Side
  pub rows : List (Option ℤ)

-- the number in the row of x, or none without a row
abbrev pub row_at : List (Option ℤ) → ℕ → Option ℤ
row_at rows x = slice_index_or rows x None

-- a row for x is there
abbrev pub HasRow : TableRows → ℕ → Type 0
HasRow table x = IsSome (row_at table.rows x)

-- a bundle with a position that isn't own is impossible, whatever the rows are
unfoldable pub worth_in : TableRows → ℕ → Option ℤ
worth_in table x = if nat_lt x (2 ^ length table.sides) then worth_by_row (row_at table.rows x) x else None

abbrev pub firm_of_table : TableRows → Firm
firm_of_table table = record { count = length table.sides; buys = buys_of table.sides; worth = worth_in table }

-- what every raw table keeps
pub record IsTableWithinLimits (table : TableRows) : Type 0 where
  pub few : length table.sides ≤ most_table_trades
  -- there is a place for each bundle
  pub places : length table.rows ≡ 2 ^ length table.sides
  pub small : (x : ℕ) (amount : ℤ) → row_at table.rows x ≡ Some amount → IsAtMost amount most_amount

-- the table of these sides without rows
abbrev pub without_rows : List Side → TableRows
without_rows sides = record { sides = sides; rows = replicate (2 ^ length sides) None }

-- the table with this row for x
abbrev pub with_row : TableRows → ℕ → ℤ → TableRows
with_row table x amount = record { sides = table.sides; rows = slice_set table.rows x (Some amount) }

-- the table with these rows put in, one by one
abbrev pub with_rows : TableRows → List (ℕ × ℤ) → TableRows
with_rows table [] = table
with_rows table (row ∷ rows) = with_rows (with_row table row.0 row.1) rows
