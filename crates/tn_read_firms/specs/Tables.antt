-- The tables of the firms.
use Rattle.std.specs.Prelude.{ℕ, suc, ◌+◌, ◌++◌, [], ◌∷◌, ℤ, List, length, codes, nat_le, ◌||◌, Bool, true, false, Option, Some, None, is_none, Result, Ok}
use Rattle.serde_json.specs.Data.{Data, Items}
use Rattle.serde_json.specs.Find.{get}
use Rattle.tn_said.specs.declared.fault.FaultKind.TheVariants.{Limit, SameBundle}
use Rattle.tn_exchange.specs.Rows.{TableRows, row_at, without_rows, with_row}
use Rattle.tn_said.specs.declared.place.PlaceStep.{PlaceStep}
use Rattle.tn_said.specs.declared.place.PlaceStep.TheVariants.{Index, Key}
use Rattle.tn_said.specs.declared.place.Word.TheVariants.{Firms, Rows as RowsWord}
use Rattle.tn_said.specs.declared.said.Fault.{Fault}
use Rattle.tn_read_shapes.specs.Reading.{◌>>=◌, each, holds}
use Rattle.tn_read_shapes.specs.Shapes.{list_at, two_at, number_at}
use Rattle.tn_read_references.specs.Ordered.{Listed, sides_of}
use Rattle.tn_read_references.specs.References.{firm_place, bundle_at}

abbrev pub row_place : ℕ → ℕ → List PlaceStep
row_place f r = Key Firms ∷ Index f ∷ Key RowsWord ∷ Index r ∷ []

-- a bundle and its number
unfoldable pub table_row_of : Listed → ℕ → ℕ → Data → Result (ℕ × ℤ) Fault
table_row_of listed f r row = do
  two ← two_at (row_place f r) row
  bundle ← bundle_at listed f (row_place f r ++ Index 0 ∷ []) (Some two.0)
  amount ← number_at listed.limits.amount (row_place f r ++ Index 1 ∷ []) two.1
  Ok (bundle, amount)

-- how many rows were read, and the table of them
pub record RowsRead : Type 0 where
  pub count : ℕ
  pub table : TableRows

-- one more row, whose bundle no earlier one has
unfoldable pub one_row : Listed → ℕ → RowsRead → Data → Result RowsRead Fault
one_row listed f rows row = do
  next ← table_row_of listed f rows.count row
  new ← holds SameBundle (row_place f rows.count) (is_none (row_at rows.table.rows next.0))
  Ok (record { count = rows.count + 1; table = with_row rows.table next.0 next.1 })

-- each place has a number
abbrev pub are_filled : List (Option ℤ) → Bool
are_filled [] = true
are_filled (None ∷ rows) = false
are_filled (Some amount ∷ rows) = are_filled rows

-- every bundle but the empty one, whose place is the first, has a row
abbrev pub has_each_row : List (Option ℤ) → Bool
has_each_row [] = true
has_each_row (empty ∷ rows) = are_filled rows

-- a table of more than 10 own trades has a row for every bundle that isn't empty
unfoldable pub full_if_large : ℕ → TableRows → Result (Unit {0}) Fault
full_if_large f table =
    holds Limit (firm_place f ++ Key RowsWord ∷ []) (nat_le (length table.sides) 10 || has_each_row table.rows)

-- the rows of firm f
unfoldable pub rows_of : Listed → ℕ → Items → Result TableRows Fault
rows_of listed f items = do
  rows ← each (one_row listed f) (record { count = 0; table = without_rows (sides_of listed.ends f) }) items
  full ← full_if_large f rows.table
  Ok rows.table

-- the table of firm f
unfoldable pub table_of : Listed → ℕ → Data → Result TableRows Fault
table_of listed f firm = do
  items ← list_at (firm_place f ++ Key RowsWord ∷ []) (get (codes "rows") firm)
  rows_of listed f items

-- how many bundles have a row
abbrev pub filled_count : List (Option ℤ) → ℕ
filled_count [] = 0
filled_count (None ∷ rows) = filled_count rows
filled_count (Some amount ∷ rows) = suc (filled_count rows)
