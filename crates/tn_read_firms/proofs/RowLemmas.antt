-- How many bundles have a row.
use Rattle.std.proofs.Common.{◌≡◌, ℕ, zero, suc, ◌+◌, ◌<◌, ◌≤◌, List, [], ◌∷◌, length, slice_set, Option, Some, None, refl, sym, ap, ◌∙◌, add-one, rules, arith}
use Rattle.std.specs.Prelude.{ℤ, replicate, IsSome}
use Rattle.std.specs.List.{slice_index_or}
use Rattle.tn_exchange.specs.Rows.{TableRows, HasRow, row_at, with_row}
use Rattle.tn_read_firms.specs.Tables.{filled_count}

pub filled-set : (rows : List (Option ℤ)) (x : ℕ) (amount : ℤ) → x < length rows → slice_index_or rows x None ≡ None
    → filled_count (slice_set rows x (Some amount)) ≡ suc (filled_count rows)
filled-set [] x amount h e = absurd (omega (arith, h))
filled-set (None ∷ rows) zero amount h e = refl
filled-set (Some a ∷ rows) zero amount h e = absurd cc
filled-set (None ∷ rows) (suc x) amount h e = filled-set rows x amount (omega (arith, h)) e
filled-set (Some a ∷ rows) (suc x) amount h e = ap suc (filled-set rows x amount (omega (arith, h)) e)

pub filled_le : (rows : List (Option ℤ)) → filled_count rows ≤ length rows
filled_le [] = omega arith
filled_le (None ∷ rows) = omega (arith, filled_le rows)
filled_le (Some a ∷ rows) = omega (arith, filled_le rows)

pub filled-none : (n : ℕ) → filled_count (replicate n None) ≡ 0
filled-none zero = refl
filled-none (suc n) = filled-none n

-- a row for a bundle that had none
pub filled-added : (table : TableRows) (new : TableRows) (x : ℕ) (amount : ℤ) → x < length table.rows
    → (HasRow table x → ⊥) → new ≡ with_row table x amount → filled_count new.rows ≡ filled_count table.rows + 1
filled-added table new x amount h none is = ap (λ (t : TableRows). filled_count t.rows) is
    ∙ filled-set table.rows x amount h (absent (row_at table.rows x) none) ∙ sym (add-one (filled_count table.rows))
  where
    absent : (row : Option ℤ) → (IsSome row → ⊥) → row ≡ None
    absent None none = refl
    absent (Some a) none = absurd (none (search rules))
