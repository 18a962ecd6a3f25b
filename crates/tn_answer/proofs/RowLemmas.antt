-- Rows that are written one after another, and what rows of one text agree in.
use Rattle.std.proofs.Common.{◌≡◌, ℕ, zero, suc, ◌+◌, ◌<◌, ◌≤◌, ℤ, pos, negsuc, Bool, true, false, ◌==◌, ◌⊎◌, inl, inr, List, [], ◌∷◌, ◌++◌, length, map, get_or, All, FitsSigned, decimal, refl, sym, ap, ◌∙◌, subst, arith, ne_eqb, eq-eqb, add-one, append-nil, take, slice_get, Option, None, Some, IfSome, ◌^◌, if◌then◌else◌}
use Rattle.std.specs.Fmt.{signed_decimal}
use Rattle.std.specs.Int.{w64}
use Rattle.std.proofs.lemmas.Fmt.{decimal_digit, decimal_injective}
use Rattle.std.proofs.lemmas.List.{get_or_past}
use Rattle.std.proofs.lemmas.List.Elements.{All-head, All-tail}
use Rattle.std.proofs.lemmas.Option.{none-some, same_Some, slice_get_within, get_or_from_slice_get}
use Rattle.std.specs.List.{AllZip, each_same}
use Rattle.csv.specs.Machine.{next_record}
use Rattle.csv.specs.Reading.{default_config}
use Rattle.csv.specs.Writing.{default_writer, row_text, read_back}
use Rattle.csv.specs.declared.parser.State.TheVariants as st
use Rattle.csv.proofs.RoundTrip.{read-write}
use Rattle.tn_answer.specs.Rows.{bound_text, each_from, flag_text, is_listed, on_flags, on_units, rows_text, table, units_of}
use Rattle.tn_answer.specs.Apart.{AreSameOn, AreUnitsOn}
use Rattle.std.proofs.lemmas.List.Folds.{list_any-append}
use Rattle.std.proofs.lemmas.Map.Keys.{any_passes_from_place}
use Rattle.tn_answer.proofs.DataTexts.{clash, first_of_decimal}
use Rattle.std.proofs.lemmas.Grind.{flat_map-append}
use Rattle.tn_answer.proofs.MapLemmas.{take-suc-at, take-whole}

-- ---- fields

row_front : (a b : List (List ℕ)) (r s : List ℕ) → row_text default_writer a ++ r ≡ row_text default_writer b ++ s
    → (read_back a ≡ read_back b) × (r ≡ s)
row_front a b r s e =
    let same = same_Some _ _ (sym (read-write a r) ∙ ap (next_record default_config st.StartRecord [] []) e
    ∙ read-write b s) in
    (ap (λ p. p.0) same, ap (λ p. p.2) same)

abbrev front : List ℕ → ℕ
front l = get_or l 0 0

pub same_flag : (a b : Bool) → flag_text a ≡ flag_text b → a ≡ b
same_flag true true e = refl
same_flag true false e = absurd (clash 49 48 refl (ap front e))
same_flag false true e = absurd (clash 48 49 refl (ap front e))
same_flag false false e = refl

no_sign : (m : ℕ) (text : List ℕ) → FitsSigned w64 (pos m) → decimal m ≡ 45 ∷ text → ⊥
no_sign m text h e =
    let digit = first_of_decimal m [] (omega (arith, h)) in
    let sign = ap (λ l. front (l ++ [])) e in
    omega (arith, digit.0, sign)

pub same_decimal : (y z : ℤ) → FitsSigned w64 y → FitsSigned w64 z → signed_decimal y ≡ signed_decimal z → y ≡ z
same_decimal (pos m) (pos n) h k e = ap pos (decimal_injective m n (omega (arith, h)) (omega (arith, k)) e)
same_decimal (pos m) (negsuc n) h k e = absurd (no_sign m _ h e)
same_decimal (negsuc m) (pos n) h k e = absurd (no_sign n _ k (sym e))
same_decimal (negsuc m) (negsuc n) h k e =
    let same = decimal_injective (suc m) (suc n) (omega (arith, h)) (omega (arith, k)) (ap (λ l. get_tail l) e) in
    let one_less : m ≡ n = omega (arith, same) in
    ap negsuc one_less
  where
    get_tail : List ℕ → List ℕ
    get_tail [] = []
    get_tail (x ∷ xs) = xs

no_digit : (z : ℤ) → FitsSigned w64 z → signed_decimal z ≡ [] → ⊥
no_digit (pos m) h e =
    let digit = first_of_decimal m [] (omega (arith, h)) in
    let nothing = ap (λ l. front (l ++ [])) e in
    omega (arith, digit.0, nothing)
no_digit (negsuc m) h e = clash 45 0 refl (ap front e)

pub same_bound_text : (x y : Option ℤ) → IfSome x (FitsSigned w64) → IfSome y (FitsSigned w64)
    → bound_text x ≡ bound_text y → x ≡ y
same_bound_text None None h k e = refl
same_bound_text None (Some z) h k e = absurd (no_digit z k (sym e))
same_bound_text (Some z) None h k e = absurd (no_digit z h e)
same_bound_text (Some y) (Some z) h k e = ap Some (same_decimal y z h k e)

-- ---- rows of one text

module _ {A B : Type 0} (row : ℕ → A → List (List ℕ)) (other : ℕ → B → List (List ℕ)) where
  same_from : (from : ℕ) (xs : List A) (ys : List B) → length xs ≡ length ys
      → rows_text (each_from row from xs) ≡ rows_text (each_from other from ys)
      → (k : ℕ) (x : A) (y : B) → slice_get xs k ≡ Some x → slice_get ys k ≡ Some y
      → read_back (row (from + k) x) ≡ read_back (other (from + k) y)
  same_from from [] ys l e k x y at there = absurd (none-some x at)
  same_from from (v ∷ xs) [] l e k x y at there = absurd (none-some y there)
  same_from from (v ∷ xs) (w ∷ ys) l e zero x y at there =
      let parts = row_front (row from v) (other from w) (rows_text (each_from row (suc from) xs))
      (rows_text (each_from other (suc from) ys)) e in
      let none_more : from ≡ from + 0 = omega arith in
      subst (λ n. read_back (row n x) ≡ read_back (other n y)) none_more
      (ap (λ z. read_back (row from z)) (sym (same_Some v x at)) ∙ parts.0
      ∙ ap (λ z. read_back (other from z)) (same_Some w y there))
  same_from from (v ∷ xs) (w ∷ ys) l e (suc k) x y at there =
      let parts = row_front (row from v) (other from w) (rows_text (each_from row (suc from) xs))
      (rows_text (each_from other (suc from) ys)) e in
      let one_more : suc from + k ≡ from + suc k = omega arith in
      subst (λ n. read_back (row n x) ≡ read_back (other n y)) one_more
      (same_from (suc from) xs ys (omega (arith, l)) parts.1 k x y at there)

  -- the rows of two tables of one text agree row by row
  pub same_tables : (head : List (List ℕ)) (xs : List A) (ys : List B) → length xs ≡ length ys
      → rows_text (table head row xs) ≡ rows_text (table head other ys)
      → (k : ℕ) (x : A) (y : B) → slice_get xs k ≡ Some x → slice_get ys k ≡ Some y
      → read_back (row k x) ≡ read_back (other k y)
  same_tables head xs ys l e k x y at there =
      let parts = row_front head head (rows_text (each_from row 0 xs)) (rows_text (each_from other 0 ys)) e in
      let none_before : 0 + k ≡ k = omega arith in
      subst (λ n. read_back (row n x) ≡ read_back (other n y)) none_before (same_from 0 xs ys l parts.1 k x y at there)

-- lists that agree place by place in what two functions give
module _ {A B C : Type 0} (f : A → C) (g : B → C) where
  pub same_places : (xs : List A) (ys : List B) → length xs ≡ length ys
      → ((k : ℕ) (x : A) (y : B) → slice_get xs k ≡ Some x → slice_get ys k ≡ Some y → f x ≡ g y) → map f xs ≡ map g ys
  same_places [] [] l h = refl
  same_places [] (y ∷ ys) l h = absurd (omega (arith, l))
  same_places (x ∷ xs) [] l h = absurd (omega (arith, l))
  same_places (x ∷ xs) (y ∷ ys) l h =
      let first = h 0 x y refl refl in
      let rest = same_places xs ys (omega (arith, l)) (λ k v w at there. h (suc k) v w at there) in
      λ j. first j ∷ rest j

-- lists that are alike place by place
module _ {A B : Type 0} (IsAlike : A → B → Type 0) where
  pub alike_places : (xs : List A) (ys : List B) → length xs ≡ length ys
      → ((k : ℕ) (x : A) (y : B) → slice_get xs k ≡ Some x → slice_get ys k ≡ Some y → IsAlike x y)
      → AllZip IsAlike xs ys
  alike_places [] [] l h = tt
  alike_places [] (y ∷ ys) l h = absurd (omega (arith, l))
  alike_places (x ∷ xs) [] l h = absurd (omega (arith, l))
  alike_places (x ∷ xs) (y ∷ ys) l h =
      (h 0 x y refl refl, alike_places xs ys (omega (arith, l)) (λ k v w at there. h (suc k) v w at there))

pub same_items : {A : Type 0} (xs ys : List A) → length xs ≡ length ys
    → ((k : ℕ) (x y : A) → slice_get xs k ≡ Some x → slice_get ys k ≡ Some y → x ≡ y) → xs ≡ ys
same_items xs ys l h =
    sym (each_same xs ys (alike_places (λ x y. y ≡ x) xs ys l (λ k x y at there. sym (h k x y at there))))

-- what holds of all items holds of the one at a place
pub there : {A : Type 0} (P : A → Type 0) (xs : List A) (k : ℕ) (x : A) → All P xs → slice_get xs k ≡ Some x → P x
there P xs k x all at = subst P (get_or_from_slice_get xs k x x at) (all k x (slice_get_within xs k x at))

-- a list has an item at each place before its end
pub item_at : {A : Type 0} (xs : List A) (k : ℕ) → k < length xs → (x : A) × (slice_get xs k ≡ Some x)
item_at [] k below = absurd (omega (arith, below))
item_at (x ∷ xs) zero below = (x, refl)
item_at (x ∷ xs) (suc k) below = item_at xs k (omega (arith, below))

-- ---- the trades that are on

unlisted : (n t : ℕ) (ks : List ℕ) → All (λ k. k < n) ks → n ≤ t → is_listed ks t ≡ false
unlisted n t [] named past = refl
unlisted n t (k ∷ ks) named past =
    let first = All-head (λ k. k < n) k ks named in
    rw (ne_eqb k t (λ same. omega (arith, same, first, past))) (unlisted n t ks (All-tail (λ k. k < n) k ks named) past)

below_or_past : (t n : ℕ) → (t < n) ⊎ (n ≤ t)
below_or_past t zero = inr (omega arith)
below_or_past zero (suc n) = inl (omega arith)
below_or_past (suc t) (suc n) = elim (below_or_past t n) [
  | inl below ↦ inl (omega (arith, below))
  | inr past ↦ inr (omega (arith, past))
]

-- the same trades are on where the flags of all trades are the same
pub same_on : (n : ℕ) (on others : List ℕ) → All (λ k. k < n) on → All (λ k. k < n) others
    → ((t : ℕ) → t < n → on_flags on t ≡ on_flags others t) → AreSameOn on others
same_on n on others named other_named flags t = elim (below_or_past t n) [
  | inl below ↦ same_flag (is_listed on t) (is_listed others t) (flags t below)
  | inr past ↦ unlisted n t on named past ∙ sym (unlisted n t others other_named past)
]

-- ---- units

flag_digit : (flag : Bool) → flag_text flag ≡ decimal (if flag then 1 else 0)
flag_digit true = sym (decimal_digit 1 (omega arith))
flag_digit false = sym (decimal_digit 0 (omega arith))

digit_short : (flag : Bool) → (if flag then 1 else 0) < 2 ^ 64
digit_short true = omega arith
digit_short false = omega arith

-- the same units of each trade go where the numbers of all trades are the same
pub same_units : (n : ℕ) (counts others : List ℕ) → length counts ≡ n → length others ≡ n → All (λ m. m < 2 ^ 64) counts
    → All (λ m. m < 2 ^ 64) others
    → ((t : ℕ) → t < n → on_units counts t ≡ on_units others t) → counts ≡ others
same_units n counts others counted other_counted short short' numbers =
    same_items counts others (counted ∙ sym other_counted) (λ t x y at at'.
    let below = slice_get_within counts t x at in
    let inside : t < n = omega (arith, below, counted) in
    let number = ap decimal (sym (get_or_from_slice_get counts t x 0 at)) ∙ numbers t inside
    ∙ ap decimal (get_or_from_slice_get others t y 0 at') in
    decimal_injective x y (there (λ m. m < 2 ^ 64) counts t x short at) (there (λ m. m < 2 ^ 64) others t y short' at')
    number)

-- flags that are written as numbers of units are: each trade that is on has one unit
pub same_units_on : (n : ℕ) (on counts : List ℕ) → All (λ k. k < n) on → length counts ≡ n
    → All (λ m. m < 2 ^ 64) counts
    → ((t : ℕ) → t < n → on_flags on t ≡ on_units counts t) → AreUnitsOn on counts
same_units_on n on counts named counted short texts t = elim (below_or_past t n) [
  | inl below ↦ decimal_injective (if is_listed on t then 1 else 0) (units_of counts t) (digit_short (is_listed on t))
      (short t 0 (omega (arith, below, counted))) (sym (flag_digit (is_listed on t)) ∙ texts t below)
  | inr past ↦ ap (λ flag. if flag then 1 else 0) (unlisted n t on named past)
      ∙ sym (get_or_past counts t 0 (omega (arith, past, counted)))
]

-- ---- a list that is looked through

module _ (ks : List ℕ) (k at : ℕ) where
  pub listed-here : (j : ℕ) → slice_get ks at ≡ Some j → j ≡ k → true ≡ is_listed ks k
  listed-here j e same = sym (any_passes_from_place (λ j. j == k) ks at j e (eq-eqb j k same))

  pub not-yet : (j : ℕ) → slice_get ks at ≡ Some j → (j ≡ k → ⊥) → is_listed (take at ks) k ≡ false
      → is_listed (take (at + 1) ks) k ≡ false
  not-yet j e other before =
      ap (λ n. is_listed (take n ks) k) (add-one at) ∙ ap (λ l. is_listed l k) (take-suc-at ks at j e)
      ∙ list_any-append (λ j. j == k) (take at ks) (j ∷ []) ∙ rw (before, ne_eqb j k other) refl

  pub never : length ks ≤ at → is_listed (take at ks) k ≡ false → false ≡ is_listed ks k
  never h before = sym before ∙ ap (λ l. is_listed l k) (take-whole ks at h)

-- ---- rows that are written one after another

module _ (head : List (List ℕ)) (all : List (List (List ℕ))) (k : ℕ) where
  pub rows-more : (row : List (List ℕ)) → slice_get all k ≡ Some row
      → rows_text (head ∷ take k all) ++ row_text default_writer row ≡ rows_text (head ∷ take (k + 1) all)
  rows-more row at =
      ap (λ r. rows_text (head ∷ take k all) ++ r) (sym (append-nil (row_text default_writer row)))
      ∙ sym (flat_map-append (row_text default_writer) (head ∷ take k all) (row ∷ []))
      ∙ ap (λ rows. rows_text (head ∷ rows)) (sym (take-suc-at all k row at) ∙ ap (λ n. take n all) (sym (add-one k)))

  pub rows-whole : length all ≤ k → rows_text (head ∷ take k all) ≡ rows_text (head ∷ all)
  rows-whole h = ap (λ rows. rows_text (head ∷ rows)) (take-whole all k h)
