-- The set of the positions that a table firm buys.
use Rattle.std.proofs.Common.{◌≡◌, ◌≢◌, ℕ, zero, suc, ◌^◌, ◌<◌, Bool, true, if◌then◌else◌, refl, sym, ap, ap₂, ◌∙◌, arith, inl, inr, List, [], ◌∷◌, length, lit<}
use Rattle.std.specs.Prelude.{◌↔◌, ℤ, Some, None, slice_get}
use Rattle.std.proofs.Math.Nat.{pow-suc}
use Rattle.std.proofs.lemmas.Bool.{false≢true, cases_eq, eq-eqb, ne_eqb}
use Rattle.std.proofs.lemmas.Option.{same_Some}
use Rattle.tn_base.specs.declared.side.Side.{Side}
use Rattle.tn_base.specs.declared.side.Side.TheVariants.{Buy, Sell}
use Rattle.tn_base.specs.Sets.{has}
use Rattle.tn_base.specs.Table.{buys_of, row_of}
use Rattle.tn_base.specs.TableLaws.{IsFirstRow, HasNoRow}
use Rattle.tn_base.proofs.SetLemmas.{has-zero, has-double, has-double_lowest, has-double_one, has-double_one_lowest}

-- the positions are below the number of sides
pub buys_of_within : (sides : List Side) → buys_of sides < 2 ^ length sides
buys_of_within [] = lit< tt
buys_of_within (Buy ∷ sides) = let rest = buys_of_within sides in let step = pow-suc 2 (length sides) in
    omega (arith, rest, step)
buys_of_within (Sell ∷ sides) = let rest = buys_of_within sides in let step = pow-suc 2 (length sides) in
    omega (arith, rest, step)

-- a position of a purchase is bought
pub bought_from : (sides : List Side) (k : ℕ) → slice_get sides k ≡ Some Buy → has (buys_of sides) k ≡ true
bought_from [] k h = cc
bought_from (Buy ∷ sides) zero h = has-double_one_lowest (buys_of sides)
bought_from (Sell ∷ sides) zero h = cc
bought_from (Buy ∷ sides) (suc k) h = has-double_one (buys_of sides) k ∙ bought_from sides k h
bought_from (Sell ∷ sides) (suc k) h = has-double (buys_of sides) k ∙ bought_from sides k h

-- what is bought is a position of a purchase
pub side_from : (sides : List Side) (k : ℕ) → has (buys_of sides) k ≡ true → slice_get sides k ≡ Some Buy
side_from [] k h = absurd (false≢true (sym (has-zero k) ∙ h))
side_from (Buy ∷ sides) zero h = refl
side_from (Sell ∷ sides) zero h = absurd (false≢true (sym (has-double_lowest (buys_of sides)) ∙ h))
side_from (Buy ∷ sides) (suc k) h = side_from sides k (sym (has-double_one (buys_of sides) k) ∙ h)
side_from (Sell ∷ sides) (suc k) h = side_from sides k (sym (has-double (buys_of sides) k) ∙ h)

-- the positions that are bought are those of the purchases
pub has-buys_of : (sides : List Side) (k : ℕ) → (has (buys_of sides) k ≡ true) ↔ (slice_get sides k ≡ Some Buy)
has-buys_of sides k = (side_from sides k, bought_from sides k)

-- ---- rows

-- the first row's number, by whether it is of x
row_is : (row : ℕ × ℤ) (rows : List (ℕ × ℤ)) (x : ℕ) → row.0 ≡ x → row_of (row ∷ rows) x ≡ Some row.1
row_is row rows x same = ap (λ (b : Bool). if b then Some row.1 else row_of rows x) (eq-eqb row.0 x same)

row_isnt : (row : ℕ × ℤ) (rows : List (ℕ × ℤ)) (x : ℕ) → row.0 ≢ x → row_of (row ∷ rows) x ≡ row_of rows x
row_isnt row rows x other = ap (λ (b : Bool). if b then Some row.1 else row_of rows x) (ne_eqb row.0 x other)

-- a row before the others is not of x
later : (row : ℕ × ℤ) (rows : List (ℕ × ℤ)) (x : ℕ) (amount : ℤ) → row.0 ≢ x → IsFirstRow rows x amount
    → IsFirstRow (row ∷ rows) x amount
later row rows x amount other found = record { at = suc found.at; is = found.is; first = before }
  where
    before : (i : ℕ) (one : ℕ × ℤ) → i < suc found.at → slice_get (row ∷ rows) i ≡ Some one → one.0 ≢ x
    before zero one inside is = λ same. other (ap (λ (r : ℕ × ℤ). r.0) (same_Some _ _ is) ∙ same)
    before (suc i) one inside is = found.first i one (omega (arith, inside)) is

first_row : (rows : List (ℕ × ℤ)) (x : ℕ) (amount : ℤ) → row_of rows x ≡ Some amount → IsFirstRow rows x amount
first_row [] x amount is = absurd (cc is)
first_row (row ∷ rows) x amount is = elim (cases_eq row.0 x) [
  | inl same ↦ record {
    at = 0;
    is = ap (λ (r : ℕ × ℤ). Some r) (ap₂ (λ (y : ℕ) (z : ℤ). (y, z)) same
        (same_Some _ _ (sym (row_is row rows x same) ∙ is)));
    first = λ i one inside there. absurd (omega (arith, inside));
  }
  | inr other ↦ later row rows x amount other (first_row rows x amount (sym (row_isnt row rows x other) ∙ is))
]

number_of_first : (rows : List (ℕ × ℤ)) (x : ℕ) (amount : ℤ) (at : ℕ) → slice_get rows at ≡ Some (x, amount)
    → ((i : ℕ) (row : ℕ × ℤ) → i < at → slice_get rows i ≡ Some row → row.0 ≢ x) → row_of rows x ≡ Some amount
number_of_first [] x amount at is first = absurd (cc is)
number_of_first (row ∷ rows) x amount zero is first =
    let same = same_Some _ _ is in
    row_is row rows x (ap (λ (r : ℕ × ℤ). r.0) same) ∙ ap (λ (r : ℕ × ℤ). Some r.1) same
number_of_first (row ∷ rows) x amount (suc at) is first =
    row_isnt row rows x (first 0 row (omega arith) refl)
    ∙ number_of_first rows x amount at is (λ i one inside there. first (suc i) one (omega (arith, inside)) there)

-- a bundle has the number of its first row
pub listed_row : (rows : List (ℕ × ℤ)) (x : ℕ) (amount : ℤ) → (row_of rows x ≡ Some amount) ↔ IsFirstRow rows x amount
listed_row rows x amount = (
  first_row rows x amount,
  λ found. number_of_first rows x amount found.at found.is found.first,
)

none_listed : (rows : List (ℕ × ℤ)) (x : ℕ) → row_of rows x ≡ None → HasNoRow rows x
none_listed [] x none i row is = absurd (cc is)
none_listed (first ∷ rows) x none i row is = elim (cases_eq first.0 x) [
  | inl same ↦ let there = row_is first rows x same in absurd (cc (there, none))
  | inr other ↦ here i row is other (none_listed rows x (sym (row_isnt first rows x other) ∙ none))
]
  where
    here : (k : ℕ) (one : ℕ × ℤ) → slice_get (first ∷ rows) k ≡ Some one → first.0 ≢ x → HasNoRow rows x → one.0 ≢ x
    here zero one one_is other rest = λ same. other (ap (λ (r : ℕ × ℤ). r.0) (same_Some _ _ one_is) ∙ same)
    here (suc k) one one_is other rest = rest k one one_is

no_number : (rows : List (ℕ × ℤ)) (x : ℕ) → HasNoRow rows x → row_of rows x ≡ None
no_number [] x none = refl
no_number (row ∷ rows) x none = row_isnt row rows x (none 0 row refl)
    ∙ no_number rows x (λ i one is. none (suc i) one is)

-- and none where it has no row
pub unlisted_row : (rows : List (ℕ × ℤ)) (x : ℕ) → (row_of rows x ≡ None) ↔ HasNoRow rows x
unlisted_row rows x = (none_listed rows x, no_number rows x)
