-- Every bundle of a table is possible exactly where each one that isn't empty has a row.
use Rattle.std.proofs.Common.{◌≡◌, ℕ, zero, suc, ◌^◌, ◌<◌, Bool, true, false, List, [], ◌∷◌, length, Option, Some, None, inl, inr, refl, sym, ◌∙◌, subst, arith}
use Rattle.std.specs.Prelude.{ℤ, IsSome, IsTrue, ◌↔◌, nat_le, ◌||◌}
use Rattle.std.proofs.lemmas.Bool.{false≢true, leb-true, or_cases}
use Rattle.tn_base.specs.Every.{HasEveryBundle}
use Rattle.tn_exchange.specs.Rows.{TableRows, firm_of_table, row_at, worth_in}
use Rattle.tn_exchange.proofs.RowLemmas.{may_abstain, worth_in-own, worth_by_row-other}
use Rattle.tn_local.specs.First.{IsFullIfLarge}
use Rattle.tn_read_firms.specs.Tables.{are_filled, has_each_row}

filled_at : (rows : List (Option ℤ)) (x : ℕ) → are_filled rows ≡ true → x < length rows → IsSome (row_at rows x)
filled_at [] x filled below = absurd (omega (arith, below))
filled_at (None ∷ rows) x filled below = absurd (false≢true filled)
filled_at (Some a ∷ rows) zero filled below = refl
filled_at (Some a ∷ rows) (suc x) filled below = filled_at rows x filled (omega (arith, below))

filled_from : (rows : List (Option ℤ)) → ((x : ℕ) → x < length rows → IsSome (row_at rows x)) → are_filled rows ≡ true
filled_from [] every = refl
filled_from (None ∷ rows) every = every zero (omega arith)
filled_from (Some a ∷ rows) every = filled_from rows (λ x below. every (suc x) (omega (arith, below)))

row_there : (rows : List (Option ℤ)) (x : ℕ) → has_each_row rows ≡ true → suc x < length rows
    → IsSome (row_at rows (suc x))
row_there [] x each below = absurd (omega (arith, below))
row_there (empty ∷ rows) x each below = filled_at rows x each (omega (arith, below))

rows_there : (rows : List (Option ℤ)) → ((x : ℕ) → suc x < length rows → IsSome (row_at rows (suc x)))
    → has_each_row rows ≡ true
rows_there [] every = refl
rows_there (empty ∷ rows) every = filled_from rows (λ x below. every x (omega (arith, below)))

-- a bundle that isn't empty is worth its row
worth_is_row : (table : TableRows) (x : ℕ) → suc x < 2 ^ length table.sides
    → worth_in table (suc x) ≡ row_at table.rows (suc x)
worth_is_row table x own = worth_in-own table (suc x) own
    ∙ worth_by_row-other (row_at table.rows (suc x)) (suc x) (λ none empty. absurd (omega (arith, empty)))

pub every_from_rows : (table : TableRows) → length table.rows ≡ 2 ^ length table.sides → has_each_row table.rows ≡ true
    → HasEveryBundle (firm_of_table table)
every_from_rows table places each zero own = subst IsSome (sym (may_abstain table).1) refl
every_from_rows table places each (suc x) own =
    subst IsSome (sym (worth_is_row table x own)) (row_there table.rows x each (omega (arith, own, places)))

pub rows_from_every : (table : TableRows) → length table.rows ≡ 2 ^ length table.sides
    → HasEveryBundle (firm_of_table table) → has_each_row table.rows ≡ true
rows_from_every table places every = rows_there table.rows (λ x below.
    let own : suc x < 2 ^ length table.sides = omega (arith, below, places) in
    subst IsSome (worth_is_row table x own) (every (suc x) own))

-- the test that a table has every bundle looks at its rows
pub full_is : (table : TableRows) (full : Bool) → length table.rows ≡ 2 ^ length table.sides
    → (IsTrue full ↔ HasEveryBundle (firm_of_table table)) → full ≡ has_each_row table.rows
full_is table full places says =
    same full (has_each_row table.rows) (λ is. rows_from_every table places (says.0 is))
    (λ each. says.1 (every_from_rows table places each))
  where
    same : (one other : Bool) → (one ≡ true → other ≡ true) → (other ≡ true → one ≡ true) → one ≡ other
    same true other there back = sym (there refl)
    same false true there back = back refl
    same false false there back = refl

-- what the test of a table that is read says
pub full_from_test : (table : TableRows) → length table.rows ≡ 2 ^ length table.sides
    → (nat_le (length table.sides) 10 || has_each_row table.rows) ≡ true → IsFullIfLarge (firm_of_table table)
full_from_test table places met large = elim (or_cases (nat_le (length table.sides) 10) (has_each_row table.rows) met) [
  | inl few ↦ absurd (omega (arith, leb-true (length table.sides) 10 few, large))
  | inr each ↦ every_from_rows table places each
]
