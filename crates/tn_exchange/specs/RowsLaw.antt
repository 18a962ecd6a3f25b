-- That a table by bundle number is the table of its rows.
use Rattle.std.specs.Prelude.{◌≡◌, ℕ, ◌^◌, ◌<◌, ℤ, List, [], ◌∷◌, length, None}
use Rattle.tn_base.specs.Table.{row_of, table_firm}
use Rattle.tn_base.specs.declared.side.Side.{Side}
use Rattle.tn_exchange.specs.Rows.{firm_of_table, without_rows, with_rows}

-- the rows are on own positions, and none has the bundle of a later one
abbrev pub AreApart : ℕ → List (ℕ × ℤ) → Type 0
AreApart count [] = Unit {0}
AreApart count (row ∷ rows) = (row.0 < 2 ^ count) × (row_of rows row.0 ≡ None) × AreApart count rows

-- rows that are added one by one to a table without rows make the firm of the list of the rows
pub record RowsMakeTheFirm : Type 0 where
  pub same : (sides : List Side) (rows : List (ℕ × ℤ)) → AreApart (length sides) rows
      → firm_of_table (with_rows (without_rows sides) rows) ≡ table_firm sides rows
