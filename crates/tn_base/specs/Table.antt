-- A table firm: a number for each listed bundle.
use Rattle.std.specs.Prelude.{ℕ, ◌+◌, ◌*◌, ℤ, pos, ◌==◌, if◌then◌else◌, List, [], ◌∷◌, Option, Some, None, length}
use Rattle.tn_base.specs.Firm.{Firm}
use Rattle.tn_base.specs.declared.side.Side.{Side}
use Rattle.tn_base.specs.declared.side.Side.TheVariants.{Buy, Sell}

-- the set of the positions that are bought
abbrev pub buys_of : List Side → ℕ
buys_of [] = 0
buys_of (Buy ∷ sides) = 1 + 2 * buys_of sides
buys_of (Sell ∷ sides) = 2 * buys_of sides

-- the number of the first row of x
abbrev pub row_of : List (ℕ × ℤ) → ℕ → Option ℤ
row_of [] x = None
row_of (row ∷ rows) x = if row.0 == x then Some row.1 else row_of rows x

-- with no row, the empty bundle is worth 0 and any other is impossible
abbrev pub worth_by_row : Option ℤ → ℕ → Option ℤ
worth_by_row (Some amount) x = Some amount
worth_by_row None x = if x == 0 then Some (pos 0) else None

abbrev pub table_worth : List (ℕ × ℤ) → ℕ → Option ℤ
table_worth rows x = worth_by_row (row_of rows x) x

abbrev pub table_firm : List Side → List (ℕ × ℤ) → Firm
table_firm sides rows = record { count = length sides; buys = buys_of sides; worth = table_worth rows }
