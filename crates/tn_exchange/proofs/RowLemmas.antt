-- What a table by bundle number is worth, and how it is made of rows.
use Rattle.std.proofs.Common.{◌≡◌, ℕ, ◌^◌, ◌<◌, ◌≤◌, Bool, true, false, refl, sym, ap, ◌∙◌, subst, arith, inl, inr, if◌then◌else◌, List, [], ◌∷◌, ◌++◌, length, pos}
use Rattle.std.specs.Prelude.{ℤ, Option, Some, None, slice_set, replicate, ◌==◌, is_some}
use Rattle.std.specs.List.{slice_index_or}
use Rattle.std.proofs.Math.Path.{fun_ext}
use Rattle.std.proofs.lemmas.Nat.{pow_pos}
use Rattle.std.proofs.lemmas.Bool.{cases_eq, cases_lt, lt-ltb, le-ltb, eq-eqb, ne_eqb, false≢true}
use Rattle.std.proofs.lemmas.Int.{ints}
use Rattle.std.proofs.lemmas.Option.{none-some}
use Rattle.std.proofs.lemmas.List.{get_or_default, get_or_past, get_or-set_same, get_or-set_other, get_or-replicate, length-set, length-replicate}
use Rattle.tn_base.specs.Arcs.{IsAtMost}
use Rattle.tn_base.specs.Firm.{HasOwnBundles, MayAbstain}
use Rattle.tn_base.specs.Table.{row_of, worth_by_row, table_worth, table_firm, buys_of}
use Rattle.tn_base.specs.declared.side.Side.{Side}
use Rattle.tn_exchange.specs.Rows.{TableRows, row_at, worth_in, firm_of_table, IsTableWithinLimits, without_rows, with_row, with_rows}
use Rattle.tn_exchange.specs.RowsLaw.{AreApart}
use Rattle.tn_base.specs.Widths.{most_amount}
use Rattle.tn_exchange.specs.Widths.{most_table_trades}

-- a bundle of own positions is worth what its row says
pub worth_in-own : (table : TableRows) (x : ℕ) → x < 2 ^ length table.sides
    → worth_in table x ≡ worth_by_row (row_at table.rows x) x
unfolding worth_in
worth_in-own table x own = ap (λ b. if b then worth_by_row (row_at table.rows x) x else None) (lt-ltb x _ own)

-- any other bundle is impossible
pub worth_in-other : (table : TableRows) (x : ℕ) → 2 ^ length table.sides ≤ x → worth_in table x ≡ None
unfolding worth_in
worth_in-other table x other = ap (λ b. if b then worth_by_row (row_at table.rows x) x else None) (le-ltb x _ other)

-- only bundles of own positions have a worth, whatever the rows are
pub own_bundles : (table : TableRows) → HasOwnBundles (firm_of_table table)
own_bundles table x a e = elim (cases_lt x (2 ^ length table.sides)) [
  | inl own ↦ own
  | inr other ↦ absurd (none-some a (sym (worth_in-other table x other) ∙ e))
]

-- the empty bundle is possible, whatever the rows are
pub may_abstain : (table : TableRows) → MayAbstain (firm_of_table table)
may_abstain table = by_row (row_at table.rows 0) (worth_in-own table 0 (pow_pos (length table.sides)))
  where
    by_row : (row : Option ℤ) → worth_in table 0 ≡ worth_by_row row 0 → (a : ℤ) × (worth_in table 0 ≡ Some a)
    by_row (Some a) e = (a, e)
    by_row None e = (pos 0, e)

-- no number of a table is above the limit
pub worth_is_small : (table : TableRows) → IsTableWithinLimits table → (x : ℕ) (a : ℤ) → worth_in table x ≡ Some a
    → IsAtMost a most_amount
worth_is_small table limits x a e =
    by_row (row_at table.rows x) refl (sym (worth_in-own table x (own_bundles table x a e)) ∙ e)
  where
    zero_is_small : (b : Bool) → (if b then Some (pos 0) else None) ≡ Some a → IsAtMost a most_amount
    zero_is_small true e = let same : pos 0 ≡ a = cc in
        subst (λ (z : ℤ). IsAtMost z most_amount) same (record {
          low = omega (arith, ints);
          high =
              omega (arith, ints);
        })
    zero_is_small false e = absurd (none-some a e)

    by_row : (row : Option ℤ) → row_at table.rows x ≡ row → worth_by_row row x ≡ Some a → IsAtMost a most_amount
    by_row (Some amount) is e = limits.small x a (is ∙ e)
    by_row None is e = zero_is_small (x == 0) e

-- what is read at a bundle's place is its row
pub worth_from_read : (table : TableRows) → IsTableWithinLimits table → (x : ℕ) (row default : Option ℤ)
    → x < 2 ^ length table.sides
    → row ≡ slice_index_or table.rows x default → worth_in table x ≡ worth_by_row row x
worth_from_read table limits x row default own read =
    let inside : x < length table.rows = omega (arith, own, limits.places) in
    worth_in-own table x own ∙ ap (λ (r : Option ℤ). worth_by_row r x) (get_or_default table.rows x None default inside
    ∙ sym read)

-- without a row for a bundle that isn't empty, nothing is worth
pub worth_by_row-other : (row : Option ℤ) (x : ℕ) → (row ≡ None → x ≡ 0 → ⊥) → worth_by_row row x ≡ row
worth_by_row-other (Some a) x h = refl
worth_by_row-other None x h = ap (λ b. if b then Some (pos 0) else None) (ne_eqb x 0 (h refl))

-- the empty bundle without a row is worth 0
pub worth_by_row-empty : (row : Option ℤ) (x : ℕ) → row ≡ None → x ≡ 0 → worth_by_row row x ≡ Some (pos 0)
worth_by_row-empty row x none empty =
    ap (λ (r : Option ℤ). worth_by_row r x) none ∙ ap (λ b. if b then Some (pos 0) else None) (eq-eqb x 0 empty)

-- a row without a number is none
pub none_from_test : (row : Option ℤ) → is_some row ≡ false → row ≡ None
none_from_test (Some a) e = absurd (false≢true (sym e))
none_from_test None e = refl

-- a table keeps its limits with one row more
pub limits_with_row : (table : TableRows) → IsTableWithinLimits table → (x : ℕ) (amount : ℤ) → x < 2 ^ length table.sides
    → IsAtMost amount most_amount
    → IsTableWithinLimits (with_row table x amount)
limits_with_row table limits x amount own small = record {
  few = limits.few;
  places = length-set table.rows x (Some amount) ∙ limits.places;
  small = λ y a e. elim (cases_eq y x) [
    | inl same ↦
        let inside : x < length table.rows = omega (arith, own, limits.places) in
        let is : Some amount ≡ Some a = sym (get_or-set_same table.rows x (Some amount) None inside)
        ∙ ap (λ (k : ℕ). row_at (slice_set table.rows x (Some amount)) k) (sym same) ∙ e in
        let equal : amount ≡ a = cc in
        subst (λ (z : ℤ). IsAtMost z most_amount) equal small
    | inr other ↦ limits.small y a (sym (get_or-set_other table.rows x y (Some amount) None other) ∙ e)
  ];
}

row_at-replicate : (n x : ℕ) → row_at (replicate n None) x ≡ None
row_at-replicate n x = elim (cases_lt x n) [
  | inl h ↦ get_or-replicate n x None None h
  | inr h ↦ get_or_past (replicate n None) x None (omega (arith, h, length-replicate {A = Option ℤ} n None))
]

-- a table without rows is within the limits
pub limits_without_rows : (sides : List Side) → length sides ≤ most_table_trades → IsTableWithinLimits (without_rows sides)
limits_without_rows sides few = record {
  few = few;
  places = length-replicate {A = Option ℤ} (2 ^ length sides) None;
  small = λ x amount e. absurd (none-some amount (sym (row_at-replicate (2 ^ length sides) x) ∙ e));
}

-- the rows of a table by bundle number are those of a list
abbrev pub IsMadeOf : TableRows → List (ℕ × ℤ) → Type 0
IsMadeOf table rows = (x : ℕ) → row_at table.rows x ≡ row_of rows x

-- the first of two rows that is there
or_row : Option ℤ → Option ℤ → Option ℤ
or_row (Some a) other = Some a
or_row None other = other

or_none : (o : Option ℤ) → or_row o None ≡ o
unfolding or_row
or_none (Some a) = refl
or_none None = refl

row_of-append : (rows more : List (ℕ × ℤ)) (x : ℕ) → row_of (rows ++ more) x ≡ or_row (row_of rows x) (row_of more x)
unfolding or_row
row_of-append [] more x = refl
row_of-append (row ∷ rows) more x =
    let rest = row_of-append rows more x in
    elim (row.0 == x) as (λ b. (if b then Some row.1 else row_of (rows ++ more) x) ≡ or_row (if b then Some row.1
    else row_of rows x) (row_of more x)) [
      | true ↦ refl
      | false ↦ rest
    ]

-- a table without rows is made of none
pub made_of_none : (sides : List Side) → IsMadeOf (without_rows sides) []
made_of_none sides x = row_at-replicate (2 ^ length sides) x

-- one row more, for a bundle that has none yet
pub made_with_row : (table : TableRows) (rows : List (ℕ × ℤ)) (x : ℕ) (amount : ℤ) → x < length table.rows
    → row_of rows x ≡ None
    → IsMadeOf table rows → IsMadeOf (with_row table x amount) (rows ++ (x, amount) ∷ [])
unfolding or_row
made_with_row table rows x amount inside none made y = elim (cases_eq y x) [
  | inl e ↦ rw e (get_or-set_same table.rows x (Some amount) None inside ∙ sym (row_of-append rows ((x, amount) ∷ []) x
      ∙ ap (λ (o : Option ℤ). or_row o (row_of ((x, amount) ∷ []) x)) none ∙ ap (λ b. if b then Some amount
      else None) (eq-eqb x x refl)))
  | inr d ↦ get_or-set_other table.rows x y (Some amount) None d ∙ made y ∙ sym (row_of-append rows ((x, amount) ∷ []) y
      ∙ ap (λ b. or_row (row_of rows y) (if b then Some amount else None)) (ne_eqb x y (λ e. d (sym e)))
      ∙ or_none (row_of rows y))
]

-- a table that is made of rows is the firm of their list
pub made_firm : (table : TableRows) (rows : List (ℕ × ℤ)) → length table.rows ≡ 2 ^ length table.sides
    → IsMadeOf table rows
    → firm_of_table table ≡ table_firm table.sides rows
made_firm table rows places made =
    let same : worth_in table ≡ table_worth rows = fun_ext at_each in
    λ i. record { count = length table.sides; buys = buys_of table.sides; worth = same i }
  where
    at_each : (x : ℕ) → worth_in table x ≡ table_worth rows x
    at_each x = elim (cases_lt x (2 ^ length table.sides)) [
      | inl own ↦ worth_in-own table x own ∙ ap (λ (o : Option ℤ). worth_by_row o x) (made x)
      | inr other ↦
          let positive : 0 < 2 ^ length table.sides = pow_pos (length table.sides) in
          let none : row_of rows x ≡ None = sym (made x) ∙ get_or_past table.rows x None (omega (arith, other, places))
          in
          worth_in-other table x other ∙ sym (ap (λ (o : Option ℤ). worth_by_row o x) none
          ∙ worth_by_row-other None x (λ e z. absurd (omega (arith, z, other, positive))))
    ]

with_rows-sides : (table : TableRows) (rows : List (ℕ × ℤ)) → (with_rows table rows).sides ≡ table.sides
with_rows-sides table [] = refl
with_rows-sides table (row ∷ rows) = with_rows-sides (with_row table row.0 row.1) rows

with_rows-length : (table : TableRows) (rows : List (ℕ × ℤ)) → length (with_rows table rows).rows ≡ length table.rows
with_rows-length table [] = refl
with_rows-length table (row ∷ rows) = with_rows-length (with_row table row.0 row.1) rows
    ∙ length-set table.rows row.0 (Some row.1)

-- the rows of a list stand before those that were there
with_rows-row : (count : ℕ) (table : TableRows) (rows : List (ℕ × ℤ)) → length table.rows ≡ 2 ^ count
    → AreApart count rows
    → (x : ℕ) → row_at (with_rows table rows).rows x ≡ or_row (row_of rows x) (row_at table.rows x)
unfolding or_row
with_rows-row count table [] places apart x = refl
with_rows-row count table (row ∷ rows) places apart x =
    let rest = with_rows-row count (with_row table row.0 row.1) rows (length-set table.rows row.0 (Some row.1) ∙ places)
    apart.2 x in
    elim (cases_eq x row.0) [
      | inl e ↦
          let inside : row.0 < length table.rows = omega (arith, places, apart.0) in
          rest ∙ rw e (ap (λ (o : Option ℤ). or_row o (row_at (slice_set table.rows row.0 (Some row.1)) row.0)) apart.1
          ∙ get_or-set_same table.rows row.0 (Some row.1) None inside
          ∙ sym (ap (λ b. or_row (if b then Some row.1 else row_of rows row.0) (row_at table.rows row.0))
          (eq-eqb row.0 row.0 refl)))
      | inr d ↦ rest ∙ ap (or_row (row_of rows x)) (get_or-set_other table.rows row.0 x (Some row.1) None d)
          ∙ sym (ap (λ b. or_row (if b then Some row.1 else row_of rows x) (row_at table.rows x))
          (ne_eqb row.0 x (λ e. d (sym e))))
    ]

-- rows that are added one by one make the firm of their list
pub rows_make_the_firm : (sides : List Side) (rows : List (ℕ × ℤ)) → AreApart (length sides) rows
    → firm_of_table (with_rows (without_rows sides) rows) ≡ table_firm sides rows
rows_make_the_firm sides rows apart =
    let same_sides : (with_rows (without_rows sides) rows).sides ≡ sides = with_rows-sides (without_rows sides) rows in
    let start : length (replicate {A = Option ℤ} (2 ^ length sides) None) ≡ 2 ^ length sides =
    length-replicate (2 ^ length sides) None in
    made_firm (with_rows (without_rows sides) rows) rows
    (with_rows-length (without_rows sides) rows ∙ start ∙ ap (λ (s : List Side). 2 ^ length s) (sym same_sides))
    (λ x. with_rows-row (length sides) (without_rows sides) rows start apart x
    ∙ ap (or_row (row_of rows x)) (row_at-replicate (2 ^ length sides) x) ∙ or_none (row_of rows x))
    ∙ ap (λ (s : List Side). table_firm s rows) same_sides
