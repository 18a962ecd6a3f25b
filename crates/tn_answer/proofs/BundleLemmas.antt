-- Texts with a blank between each two: how they are written one by one, and that they are told apart.
use Rattle.std.proofs.Common.{◌≡◌, ℕ, zero, suc, ◌+◌, ◌<◌, ◌≤◌, ◌^◌, Bool, true, false, true≢false, ◌&&◌, ◌==◌, if◌then◌else◌, List, [], ◌∷◌, ◌++◌, length, map, take, get_or, slice_get, Some, All, decimal, refl, sym, ap, ◌∙◌, arith, ne_eqb, eq-eqb, add-one, append-nil, append_assoc}
use Rattle.std.specs.List.{AllZip, each_same, list_all}
use Rattle.std.specs.Prelude.{flat_map, not}
use Rattle.std.specs.Str.Parse.{AllDigits}
use Rattle.std.proofs.lemmas.Bool.{and_parts}
use Rattle.std.proofs.lemmas.Fmt.{decimal_injective, decimal_is_IsNumeral}
use Rattle.std.proofs.lemmas.Grind.{flat_map-append}
use Rattle.std.proofs.lemmas.List.Elements.{All-head, All-tail}
use Rattle.std.proofs.lemmas.List.Folds.{list_all-append}
use Rattle.std.proofs.lemmas.Option.{none-some, same_Some, slice_get-get_or, unwrap_or-slice_get}
use Rattle.std.proofs.lemmas.Str.Parse.{digit_from_value}
use Rattle.tn_said.specs.declared.units.TradeUnits.{TradeUnits}
use Rattle.tn_names.specs.Names.{IsNameList, is_name, is_name_byte}
use Rattle.tn_names.specs.Named.{IsNamed}
use Rattle.tn_answer.specs.Apart.{AreBothEmpty}
use Rattle.tn_answer.specs.Rows.{bundle_text, entry_text, name_text, spaced_text, unit_bundle_text}
use Rattle.tn_answer.proofs.MapLemmas.{take-suc-at}

-- ---- one more text

module _ {A : Type 0} (text : A → List ℕ) where
  abbrev after : List A → List ℕ
  after xs = flat_map (λ y. 32 ∷ text y) xs

  abbrev blank : ℕ → List ℕ
  blank k = if k == 0 then [] else 32 ∷ []

  pub spaced-more : (xs : List A) (k : ℕ) (x : A) → slice_get xs k ≡ Some x
      → (spaced_text text (take k xs) ++ blank k) ++ text x ≡ spaced_text text (take (k + 1) xs)
  spaced-more [] k x at = absurd (none-some x at)
  spaced-more (y ∷ xs) zero x at = ap text (sym (same_Some y x at)) ∙ sym (append-nil (text y))
  spaced-more (y ∷ xs) (suc k) x at = rw (ne_eqb (suc k) 0 (λ same. omega (arith, same)))
      (ap (λ l. l ++ text x) (append_assoc (text y) (after (take k xs)) (32 ∷ []))
      ∙ append_assoc (text y) (after (take k xs) ++ 32 ∷ []) (text x)
      ∙ ap (λ l. text y ++ l)
      (append_assoc (after (take k xs)) (32 ∷ []) (text x)
      ∙ ap (λ l. after (take k xs) ++ 32 ∷ l) (sym (append-nil (text x)))
      ∙ sym (flat_map-append (λ z. 32 ∷ text z) (take k xs) (x ∷ []))
      ∙ ap after (sym (take-suc-at xs k x at)))
      ∙ ap (λ n. spaced_text text (take n (y ∷ xs))) (sym (add-one (suc k))))

-- ---- texts between separators

abbrev put : ℕ → List (List ℕ) → List (List ℕ)
put b [] = (b ∷ []) ∷ []
put b (w ∷ ws) = (b ∷ w) ∷ ws

abbrev parted : ℕ → List ℕ → List (List ℕ)
parted c [] = [] ∷ []
parted c (b ∷ bs) = if b == c then [] ∷ parted c bs else put b (parted c bs)

-- whether a text lacks a byte
abbrev lacks : ℕ → List ℕ → Bool
lacks c text = list_all (λ b. not (b == c)) text

not_true : (b : Bool) → not b ≡ true → b ≡ false
not_true true e = absurd (true≢false (sym e))
not_true false e = refl

both_true : (a b : Bool) → a ≡ true → b ≡ true → (a && b) ≡ true
both_true a b p q = ap (λ c. c && b) p ∙ q

parted-more : (c : ℕ) (w rest : List ℕ) → lacks c w ≡ true → parted c (w ++ c ∷ rest) ≡ w ∷ parted c rest
parted-more c [] rest h = rw (eq-eqb c c refl) refl
parted-more c (b ∷ w) rest h =
    let parts = and_parts (not (b == c)) (lacks c w) h in
    rw (not_true (b == c) parts.0) (ap (put b) (parted-more c w rest parts.1))

parted-one : (c : ℕ) (w : List ℕ) → lacks c w ≡ true → parted c w ≡ w ∷ []
parted-one c [] h = refl
parted-one c (b ∷ w) h =
    let parts = and_parts (not (b == c)) (lacks c w) h in
    rw (not_true (b == c) parts.0) (ap (put b) (parted-one c w parts.1))

name_lacks : (c : ℕ) → is_name_byte c ≡ false → (w : List ℕ) → list_all is_name_byte w ≡ true → lacks c w ≡ true
name_lacks c other [] h = refl
name_lacks c other (b ∷ w) h =
    let parts = and_parts (is_name_byte b) (list_all is_name_byte w) h in
    let here = ne_eqb b c (λ same. true≢false (sym parts.0 ∙ ap is_name_byte same ∙ other)) in
    both_true (not (b == c)) (lacks c w) (ap not here) (name_lacks c other w parts.1)

digits_lack : (c : ℕ) → ((b : ℕ) → 48 ≤ b → b ≤ 57 → b ≡ c → ⊥) → (ds : List ℕ) → AllDigits 10 ds → lacks c ds ≡ true
digits_lack c no_digit [] h = refl
digits_lack c no_digit (d ∷ ds) h =
    let digit = digit_from_value d h.0 in
    both_true (not (d == c)) (lacks c ds) (ap not (ne_eqb d c (no_digit d digit.0 digit.1)))
    (digits_lack c no_digit ds h.1)

decimal_lacks : (c : ℕ) → ((b : ℕ) → 48 ≤ b → b ≤ 57 → b ≡ c → ⊥) → (n : ℕ) → n < 2 ^ 64 → lacks c (decimal n) ≡ true
decimal_lacks c no_digit n h = digits_lack c no_digit (decimal n) (decimal_is_IsNumeral n h).0.1

-- ---- texts that are told apart

-- none of some texts is empty or has a blank
record AreWords (A : Type 0) (text : A → List ℕ) (IsKnown : A → Type 0) : Type 0 where
  pub whole : (x : A) → IsKnown x → lacks 32 (text x) ≡ true
  pub some : (x : A) → IsKnown x → text x ≡ [] → ⊥

module _ {A : Type 0} (text : A → List ℕ) (IsKnown : A → Type 0) (words : AreWords A text IsKnown) where
  parted_words : (w : List ℕ) (xs : List A) → lacks 32 w ≡ true → All IsKnown xs
      → parted 32 (w ++ flat_map (λ y. 32 ∷ text y) xs) ≡ w ∷ map text xs
  parted_words w [] h known = ap (parted 32) (append-nil w) ∙ parted-one 32 w h
  parted_words w (x ∷ xs) h known =
      parted-more 32 w (text x ++ flat_map (λ y. 32 ∷ text y) xs) h
      ∙ ap (λ l. w ∷ l) (parted_words (text x) xs (words.whole x (All-head IsKnown x xs known))
      (All-tail IsKnown x xs known))

  parted_spaced : (x : A) (xs : List A) → All IsKnown (x ∷ xs)
      → parted 32 (spaced_text text (x ∷ xs)) ≡ map text (x ∷ xs)
  parted_spaced x xs known =
      parted_words (text x) xs (words.whole x (All-head IsKnown x xs known)) (All-tail IsKnown x xs known)

  some_text : (x : A) (xs : List A) → All IsKnown (x ∷ xs) → spaced_text text (x ∷ xs) ≡ [] → ⊥
  some_text x xs known e = words.some x (All-head IsKnown x xs known)
      (ap (λ l. get_or l 0 []) (sym (parted_spaced x xs known) ∙ ap (parted 32) e))

-- texts of two sorts of items, of which each two that are the same are of items that are alike
module _ {A B : Type 0} (text : A → List ℕ) (other : B → List ℕ) (IsKnown : A → Type 0) (IsOther : B → Type 0)
    (words : AreWords A text IsKnown) (other_words : AreWords B other IsOther) (IsAlike : A → B → Type 0)
    (one : (x : A) (y : B) → IsKnown x → IsOther y → text x ≡ other y → IsAlike x y) where
  alike_by_words : (xs : List A) (ys : List B) → All IsKnown xs → All IsOther ys → map text xs ≡ map other ys
      → AllZip IsAlike xs ys
  alike_by_words [] [] h k e = tt
  alike_by_words [] (y ∷ ys) h k e = absurd (omega (arith, ap length e))
  alike_by_words (x ∷ xs) [] h k e = absurd (omega (arith, ap length e))
  alike_by_words (x ∷ xs) (y ∷ ys) h k e = (
    one x y (All-head IsKnown x xs h) (All-head IsOther y ys k) (ap (λ l. get_or l 0 []) e),
    alike_by_words xs ys (All-tail IsKnown x xs h) (All-tail IsOther y ys k) (ap tail e),
  )
    where
      tail : List (List ℕ) → List (List ℕ)
      tail [] = []
      tail (w ∷ ws) = ws

  alike_spaced : (xs : List A) (ys : List B) → All IsKnown xs → All IsOther ys
      → spaced_text text xs ≡ spaced_text other ys → AllZip IsAlike xs ys
  alike_spaced [] [] h k e = tt
  alike_spaced [] (y ∷ ys) h k e = absurd (some_text other IsOther other_words y ys k (sym e))
  alike_spaced (x ∷ xs) [] h k e = absurd (some_text text IsKnown words x xs h e)
  alike_spaced (x ∷ xs) (y ∷ ys) h k e =
      alike_by_words (x ∷ xs) (y ∷ ys) h k (sym (parted_spaced text IsKnown words x xs h) ∙ ap (parted 32) e
      ∙ parted_spaced other IsOther other_words y ys k)

-- lists that are alike nowhere are empty
pub nowhere_alike : {A B : Type 0} (xs : List A) (ys : List B) → AllZip (λ x y. ⊥) xs ys → AreBothEmpty xs ys
nowhere_alike [] [] h = (refl, refl)
nowhere_alike [] (y ∷ ys) h = absurd h
nowhere_alike (x ∷ xs) [] h = absurd h
nowhere_alike (x ∷ xs) (y ∷ ys) h = absurd h.0

-- ---- names, and names with units

module _ (names : List (List ℕ)) (kept : IsNameList names) where
  name_there : (k : ℕ) → IsNamed names k → slice_get names k ≡ Some (name_text names k)
  name_there k there = slice_get-get_or names k [] there ∙ ap Some (sym (unwrap_or-slice_get names k []))

  a_name : (k : ℕ) → IsNamed names k → is_name (name_text names k) ≡ true
  a_name k there = kept.named k (name_text names k) (name_there k there)

  a_name_lacks : (c : ℕ) → is_name_byte c ≡ false → (k : ℕ) → IsNamed names k → lacks c (name_text names k) ≡ true
  a_name_lacks c other k there = name_lacks c other (name_text names k) (and_parts _ _ (a_name k there)).1

  pub same_name_text : (j k : ℕ) → IsNamed names j → IsNamed names k → name_text names j ≡ name_text names k → j ≡ k
  same_name_text j k there_j there_k e =
      kept.once j k (name_text names k) (name_there j there_j ∙ ap Some e) (name_there k there_k)

  names_are_words : AreWords ℕ (name_text names) (IsNamed names)
  names_are_words = record {
    whole = a_name_lacks 32 refl;
    some = λ k there e. true≢false (sym (a_name k there) ∙ ap is_name e);
  }

  pub same_bundle : (xs ys : List ℕ) → All (IsNamed names) xs → All (IsNamed names) ys
      → bundle_text names xs ≡ bundle_text names ys → xs ≡ ys
  same_bundle xs ys h k e = sym (each_same xs ys
      (alike_spaced (name_text names) (name_text names) (IsNamed names) (IsNamed names) names_are_words names_are_words
      (λ x y. y ≡ x) (λ x y there there' same. same_name_text y x there' there (sym same)) xs ys h k e))

  -- a trade that has a name, with a number of units that fits 64 bits
  abbrev pub IsKnownEntry : TradeUnits → Type 0
  IsKnownEntry entry = IsNamed names entry.trade × (entry.units < 2 ^ 64)

  parted_entry : (entry : TradeUnits) → IsKnownEntry entry
      → parted 58 (entry_text names entry) ≡ name_text names entry.trade ∷ decimal entry.units ∷ []
  parted_entry entry h =
      parted-more 58 (name_text names entry.trade) (decimal entry.units) (a_name_lacks 58 refl entry.trade h.0)
      ∙ ap (λ l. name_text names entry.trade ∷ l) (parted-one 58 (decimal entry.units)
      (decimal_lacks 58 (λ b low high same. omega (arith, high, same)) entry.units h.1))

  entries_are_words : AreWords TradeUnits (entry_text names) IsKnownEntry
  entries_are_words = record {
    whole = λ entry h. list_all-append (λ b. not (b == 32)) (name_text names entry.trade) (58 ∷ decimal entry.units)
        ∙ both_true (lacks 32 (name_text names entry.trade)) _ (a_name_lacks 32 refl entry.trade h.0)
        (decimal_lacks 32 (λ b low high same. omega (arith, low, same)) entry.units h.1);
    some = λ entry h e. let counted = ap length (sym (parted_entry entry h) ∙ ap (parted 58) e) in
        omega (arith, counted);
  }

  same_entry : (x y : TradeUnits) → IsKnownEntry x → IsKnownEntry y → entry_text names x ≡ entry_text names y → y ≡ x
  same_entry x y h k e =
      let same = sym (parted_entry y k) ∙ ap (parted 58) (sym e) ∙ parted_entry x h in
      let trade = same_name_text y.trade x.trade k.0 h.0 (ap (λ l. get_or l 0 []) same) in
      let units = decimal_injective y.units x.units k.1 h.1 (ap (λ l. get_or l 1 []) same) in
      λ i. record { trade = trade i; units = units i }

  pub same_unit_bundle : (xs ys : List TradeUnits) → All IsKnownEntry xs → All IsKnownEntry ys
      → unit_bundle_text names xs ≡ unit_bundle_text names ys → xs ≡ ys
  same_unit_bundle xs ys h k e = sym (each_same xs ys
      (alike_spaced (entry_text names) (entry_text names) IsKnownEntry IsKnownEntry entries_are_words
      entries_are_words (λ x y. y ≡ x) same_entry xs ys h k e))

  -- a name alone is none with units
  no_entry : (t : ℕ) (entry : TradeUnits) → IsNamed names t → IsKnownEntry entry
      → name_text names t ≡ entry_text names entry → ⊥
  no_entry t entry h k e =
      let counted = ap length (sym (parted-one 58 (name_text names t) (a_name_lacks 58 refl t h)) ∙ ap (parted 58) e
      ∙ parted_entry entry k) in
      omega (arith, counted)

  pub no_bundle_alike : (ks : List ℕ) (bundle : List TradeUnits) → All (IsNamed names) ks → All IsKnownEntry bundle
      → bundle_text names ks ≡ unit_bundle_text names bundle → AreBothEmpty ks bundle
  no_bundle_alike ks bundle h k e = nowhere_alike ks bundle
      (alike_spaced (name_text names) (entry_text names) (IsNamed names) IsKnownEntry names_are_words
      entries_are_words (λ t entry. ⊥) no_entry ks bundle h k e)
