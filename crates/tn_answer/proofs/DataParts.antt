-- Parts of data, and what they tell of what stands in them: of names, of prices, and of counts of units.
use Rattle.std.proofs.Common.{◌≡◌, ℕ, zero, suc, ℤ, pos, negsuc, ◌<◌, ◌+◌, ◌≤◌, List, [], ◌∷◌, length, slice_get, Option, None, Some, option_and_then, unwrap_or, refl, sym, ap, ◌∙◌, arith}
use Rattle.std.proofs.lemmas.List.Elements.{All-cons, All-nil}
use Rattle.std.proofs.lemmas.Option.{same_Some, slice_get-get_or, unwrap_or-slice_get}
use Rattle.serde_json.specs.Data.{Data, null, boolean, number, string, array, object, Items, no_items, item}
use Rattle.serde_json.specs.View.{items_of}
use Rattle.serde_json.specs.Events.{items_len}
use Rattle.serde_json.specs.Find.{as_integer, as_u64, as_str, as_number, as_array, at, get}
use Rattle.tn_names.specs.Names.{IsNameList}
use Rattle.tn_names.specs.Named.{IsNamed}
use Rattle.tn_answer.specs.Apart.{HasNoUnits}
use Rattle.tn_answer.specs.AnswerText.{count_data, counts_from, prices_from}
use Rattle.tn_answer.specs.Values.{bound_data, integer_data, name_data, names_data}
use Rattle.tn_answer.proofs.CountLemmas.{counts-more}
use Rattle.tn_answer.proofs.DataTexts.{clash}

-- ---- parts of data

abbrev pub text_in : Data → List ℕ
text_in d = unwrap_or (as_str d) []

abbrev pub natural_in : Data → ℕ
natural_in d = unwrap_or (option_and_then as_u64 (as_number d)) 0

abbrev pub items_in : Data → Items
items_in d = unwrap_or (as_array d) no_items

abbrev pub first_in : Data → Data
first_in d = unwrap_or (at 0 d) null

abbrev pub rest_of : Items → Items
rest_of no_items = no_items
rest_of (item d ds) = ds

abbrev pub rest_in : Data → Data
rest_in d = array (rest_of (items_in d))

-- the value of an object's member
abbrev pub part : List ℕ → Data → Data
part name d = unwrap_or (get name d) null

-- which kind of data it is
abbrev pub shape : Data → ℕ
shape null = 0
shape (boolean b) = 1
shape (number n) = 2
shape (string s) = 3
shape (array ds) = 4
shape (object ms) = 5

abbrev pub integer_in : Data → Option ℤ
integer_in d = option_and_then as_integer (as_number d)

integer_back : (z : ℤ) → integer_in (integer_data z) ≡ Some z
integer_back (pos n) = refl
integer_back (negsuc n) = refl

pub same_integer : (y z : ℤ) → integer_data y ≡ integer_data z → y ≡ z
same_integer y z e = same_Some y z (sym (integer_back y) ∙ ap integer_in e ∙ integer_back z)

pub same_bound : (first second : Option ℤ) → bound_data first ≡ bound_data second → first ≡ second
same_bound None None e = refl
same_bound None (Some y) e = absurd (clash 0 2 refl (ap shape e))
same_bound (Some x) None e = absurd (clash 2 0 refl (ap shape e))
same_bound (Some x) (Some y) e = ap Some (same_integer x y e)

-- the prices stand in their data, whatever the names
pub same_prices : (names : List (List ℕ)) (k : ℕ) (xs ys : List ℤ)
    → array (items_of (prices_from names k xs)) ≡ array (items_of (prices_from names k ys)) → xs ≡ ys
same_prices names k [] [] e = refl
same_prices names k [] (y ∷ ys) e = absurd (omega (arith, ap (λ d. items_len (items_in d)) e))
same_prices names k (x ∷ xs) [] e = absurd (omega (arith, ap (λ d. items_len (items_in d)) e))
same_prices names k (x ∷ xs) (y ∷ ys) e =
    let first = same_integer x y (ap (λ d. first_in (rest_in (first_in d))) e) in
    let rest = same_prices names (suc k) xs ys (ap rest_in e) in
    λ i. first i ∷ rest i

-- ---- names

module _ (names : List (List ℕ)) (kept : IsNameList names) where
  pub name_there : (k : ℕ) → IsNamed names k → slice_get names k ≡ Some (text_in (name_data names k))
  name_there k there = slice_get-get_or names k [] there ∙ ap Some (sym (unwrap_or-slice_get names k []))

  pub same_name : (j k : ℕ) → IsNamed names j → IsNamed names k → name_data names j ≡ name_data names k → j ≡ k
  same_name j k there_j there_k e =
      kept.once j k _ (name_there j there_j ∙ ap (λ d. Some (text_in d)) e) (name_there k there_k)

-- ---- counts

module _ (names : List (List ℕ)) where
  abbrev counted : ℕ → List ℕ → Data
  counted k counts = array (items_of (counts_from names k counts))

  -- what stands first among counts is no name
  no_name_first : (k : ℕ) (counts : List ℕ) → shape (first_in (counted k counts)) ≡ 3 → ⊥
  no_name_first k [] e = clash 0 3 refl e
  no_name_first k (zero ∷ counts) e = no_name_first (suc k) counts e
  no_name_first k (suc n ∷ counts) e =
      clash 4 3 refl (sym (ap (λ ds. shape (first_in (array (items_of ds)))) (counts-more names k n counts)) ∙ e)

  none_counted : (k : ℕ) (counts : List ℕ) → items_len (items_in (counted k counts)) ≡ 0 → HasNoUnits counts
  none_counted k [] e = All-nil (λ m. m ≡ 0)
  none_counted k (zero ∷ counts) e = All-cons (λ m. m ≡ 0) zero counts refl (none_counted (suc k) counts e)
  none_counted k (suc n ∷ counts) e =
      absurd (omega (arith, sym (ap (λ ds. items_len (items_of ds)) (counts-more names k n counts)) ∙ e))

  -- trades and counts are written alike only where nothing goes
  pub nothing_goes : (on : List ℕ) (k : ℕ) (counts : List ℕ) → names_data names on ≡ counted k counts
      → (on ≡ []) × HasNoUnits counts
  nothing_goes [] k counts e = (refl, none_counted k counts (sym (ap (λ d. items_len (items_in d)) e)))
  nothing_goes (t ∷ on) k counts e = absurd (no_name_first k counts (sym (ap (λ d. shape (first_in d)) e)))

module _ (names : List (List ℕ)) (kept : IsNameList names) where
  -- the first trade with units is none before those that are counted
  no_earlier : (t k : ℕ) (counts : List ℕ) → t < k → k + length counts ≤ length names
      → first_in (first_in (counted names k counts)) ≡ name_data names t → ⊥
  no_earlier t k [] before all e = clash 0 3 refl (ap shape e)
  no_earlier t k (zero ∷ counts) before all e =
      no_earlier t (suc k) counts (omega (arith, before)) (omega (arith, all)) e
  no_earlier t k (suc n ∷ counts) before all e =
      let first = ap (λ ds. first_in (first_in (array (items_of ds)))) (counts-more names k n counts) in
      let same = same_name names kept k t (omega (arith, all)) (omega (arith, before, all)) (sym first ∙ e) in
      omega (arith, before, same)

  more : (k n : ℕ) (counts : List ℕ)
      → counted names k (suc n ∷ counts) ≡ array (item (count_data names k (suc n)) (items_of (counts_from names (suc k) counts)))
  more k n counts = ap (λ ds. array (items_of ds)) (counts-more names k n counts)

  -- counts stand in their data
  pub same_counts : (k : ℕ) (xs ys : List ℕ) → length xs ≡ length ys → k + length xs ≤ length names
      → counted names k xs ≡ counted names k ys → xs ≡ ys
  same_counts k [] [] l all e = refl
  same_counts k [] (y ∷ ys) l all e = absurd (omega (arith, l))
  same_counts k (x ∷ xs) [] l all e = absurd (omega (arith, l))
  same_counts k (zero ∷ xs) (zero ∷ ys) l all e =
      ap (λ zs. zero ∷ zs) (same_counts (suc k) xs ys (omega (arith, l)) (omega (arith, all)) e)
  same_counts k (zero ∷ xs) (suc n ∷ ys) l all e =
      absurd (no_earlier k (suc k) xs (omega arith) (omega (arith, all))
      (ap (λ d. first_in (first_in d)) (e ∙ more k n ys)))
  same_counts k (suc m ∷ xs) (zero ∷ ys) l all e =
      absurd (no_earlier k (suc k) ys (omega arith) (omega (arith, l, all))
      (ap (λ d. first_in (first_in d)) (sym e ∙ more k m xs)))
  same_counts k (suc m ∷ xs) (suc n ∷ ys) l all e =
      let same = sym (more k m xs) ∙ e ∙ more k n ys in
      let first = ap (λ d. natural_in (first_in (rest_in (first_in d)))) same in
      let rest = same_counts (suc k) xs ys (omega (arith, l)) (omega (arith, all)) (ap rest_in same) in
      λ i. first i ∷ rest i
