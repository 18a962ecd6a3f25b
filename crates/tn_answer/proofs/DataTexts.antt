-- The compact text of data tells the data, where its texts have characters of names alone and its numbers are integers
-- of 64 bits.
use Rattle.std.proofs.Common.{◌≡◌, ℕ, suc, ◌^◌, ◌<◌, ◌≤◌, pos, negsuc, Bool, true, false, nat_le, ◌==◌, if◌then◌else◌, List, [], ◌∷◌, ◌++◌, drop, length, get_or, decimal, refl, sym, ap, ap₂, ◌∙◌, arith, subst, append_assoc, true≢false, le-leb, le-ltb, ne_eqb, eq-eqb}
use Rattle.std.proofs.lemmas.Bool.{and_parts}
use Rattle.std.proofs.lemmas.Fmt.{decimal_is_IsNumeral, decimal_injective}
use Rattle.std.proofs.lemmas.List.{append_cancel_left}
use Rattle.std.proofs.lemmas.Str.Parse.{digit_from_value}
use Rattle.std.specs.Char.{digit_value}
use Rattle.std.specs.List.{list_all}
use Rattle.std.specs.Str.Parse.{AllDigits}
use Rattle.serde_json.specs.Data.{Num, unsigned, negative, float, Data, null, boolean, number, string, array, object, Items, no_items, item, Members, no_members, member}
use Rattle.serde_json.specs.Written.{number_text, comma_if, compact_text, items_text, members_text}
use Rattle.serde_json.proofs.OnLiterals.{serde_json_on_literals}
use Rattle.tn_names.specs.Names.{is_name_byte}

-- an integer of 64 bits
abbrev pub IsShort : Num → Type 0
IsShort (unsigned n) = n < 2 ^ 64
IsShort (negative (pos n)) = ⊥
IsShort (negative (negsuc n)) = n < 2 ^ 63
IsShort (float x) = ⊥

abbrev pub HasNameBytes : List ℕ → Type 0
HasNameBytes s = list_all is_name_byte s ≡ true

-- data with short integers, texts like names, and no boolean
abbrev mutual
  pub IsPlain : Data → Type 0
  IsPlain null = Unit {0}
  IsPlain (boolean b) = ⊥
  IsPlain (number n) = IsShort n
  IsPlain (string s) = HasNameBytes s
  IsPlain (array ds) = ItemsArePlain ds
  IsPlain (object ms) = MembersArePlain ms

  pub ItemsArePlain : Items → Type 0
  ItemsArePlain no_items = Unit {0}
  ItemsArePlain (item d ds) = IsPlain d × ItemsArePlain ds

  pub MembersArePlain : Members → Type 0
  MembersArePlain no_members = Unit {0}
  MembersArePlain (member k d ms) = HasNameBytes k × IsPlain d × MembersArePlain ms

abbrev front : List ℕ → ℕ
front s = get_or s 0 0

pub clash : (a b : ℕ) → (a == b) ≡ false → a ≡ b → ⊥
clash a b differ same = true≢false (sym (eq-eqb a b same) ∙ differ)

-- ---- texts

name_byte_is_not : (x y : ℕ) → is_name_byte x ≡ true → is_name_byte y ≡ false → x ≡ y → ⊥
name_byte_is_not x y named other same = true≢false (sym named ∙ ap is_name_byte same ∙ other)

name_byte_is_printed : (x : ℕ) → is_name_byte x ≡ true → 32 ≤ x
name_byte_is_printed x h = grind arith

text_by_bytes : (s : List ℕ) → HasNameBytes s → compact_text (string s) ≡ 34 ∷ (s ++ 34 ∷ [])
unfolding serde_json_on_literals
text_by_bytes [] h = refl
text_by_bytes (x ∷ s) h =
    let both = and_parts (is_name_byte x) (list_all is_name_byte s) h in
    let no = λ (y : ℕ) (other : is_name_byte y ≡ false). ne_eqb x y (name_byte_is_not x y both.0 other) in
    rw (
      no 34 refl,
      no 92 refl,
      no 8 refl,
      no 12 refl,
      no 10 refl,
      no 13 refl,
      no 9 refl,
      le-ltb x 32 (name_byte_is_printed x both.0),
    )
    (ap (λ l. 34 ∷ x ∷ drop 1 l) (text_by_bytes s both.1))

until_quote : (s t r u : List ℕ) → HasNameBytes s → HasNameBytes t → s ++ 34 ∷ r ≡ t ++ 34 ∷ u → (s ≡ t) × (r ≡ u)
until_quote [] [] r u h k e = (refl, ap (drop 1) e)
until_quote [] (y ∷ t) r u h k e = absurd (name_byte_is_not y 34 (and_parts _ _ k).0 refl (sym (ap front e)))
until_quote (x ∷ s) [] r u h k e = absurd (name_byte_is_not x 34 (and_parts _ _ h).0 refl (ap front e))
until_quote (x ∷ s) (y ∷ t) r u h k e =
    let rest = until_quote s t r u (and_parts _ _ h).1 (and_parts _ _ k).1 (ap (drop 1) e) in
    (λ i. ap front e i ∷ rest.0 i, rest.1)

string_front : (s t r u : List ℕ) → HasNameBytes s → HasNameBytes t
    → compact_text (string s) ++ r ≡ compact_text (string t) ++ u → (s ≡ t) × (r ≡ u)
string_front s t r u h k e =
    let by_bytes : 34 ∷ ((s ++ 34 ∷ []) ++ r) ≡ 34 ∷ ((t ++ 34 ∷ []) ++ u) =
    sym (ap (λ l. l ++ r) (text_by_bytes s h)) ∙ e ∙ ap (λ l. l ++ u) (text_by_bytes t k) in
    until_quote s t r u h k (sym (append_assoc s (34 ∷ []) r) ∙ ap (drop 1) by_bytes ∙ append_assoc t (34 ∷ []) u)

-- ---- numbers

-- no digit stands in front
abbrev Ends : List ℕ → Type 0
Ends r = digit_value (front r) < 10 → ⊥

digits_front : (ds es r s : List ℕ) → AllDigits 10 ds → AllDigits 10 es → Ends r → Ends s → ds ++ r ≡ es ++ s
    → (ds ≡ es) × (r ≡ s)
digits_front [] [] r s h k ended_r ended_s e = (refl, e)
digits_front [] (y ∷ es) r s h k ended_r ended_s e =
    absurd (ended_r (subst (λ b. digit_value b < 10) (sym (ap front e)) k.0))
digits_front (x ∷ ds) [] r s h k ended_r ended_s e = absurd (ended_s (subst (λ b. digit_value b < 10) (ap front e) h.0))
digits_front (x ∷ ds) (y ∷ es) r s h k ended_r ended_s e =
    let rest = digits_front ds es r s h.1 k.1 ended_r ended_s (ap (drop 1) e) in
    (λ i. ap front e i ∷ rest.0 i, rest.1)

decimal_front : (m n : ℕ) (r s : List ℕ) → m < 2 ^ 64 → n < 2 ^ 64 → Ends r → Ends s → decimal m ++ r ≡ decimal n ++ s
    → (m ≡ n) × (r ≡ s)
decimal_front m n r s short_m short_n ended_r ended_s e =
    let parts = digits_front (decimal m) (decimal n) r s (decimal_is_IsNumeral m short_m).0.1
    (decimal_is_IsNumeral n short_n).0.1 ended_r ended_s e in
    (decimal_injective m n short_m short_n parts.0, parts.1)

first_digit : (ds r : List ℕ) → AllDigits 10 ds → 0 < length ds → (48 ≤ front (ds ++ r)) × (front (ds ++ r) ≤ 57)
first_digit [] r h some = absurd (omega arith)
first_digit (d ∷ ds) r h some = digit_from_value d h.0

pub first_of_decimal : (n : ℕ) (r : List ℕ) → n < 2 ^ 64 → (48 ≤ front (decimal n ++ r)) × (front (decimal n ++ r) ≤ 57)
first_of_decimal n r h = let numeral = (decimal_is_IsNumeral n h).0 in first_digit (decimal n) r numeral.1 numeral.0

number_front : (n m : Num) (r s : List ℕ) → IsShort n → IsShort m → Ends r → Ends s
    → number_text n ++ r ≡ number_text m ++ s → (n ≡ m) × (r ≡ s)
number_front (unsigned n) (unsigned m) r s h k ended_r ended_s e = let parts =
    decimal_front n m r s h k ended_r ended_s e in (ap unsigned parts.0, parts.1)
number_front (unsigned n) (negative (negsuc m)) r s h k ended_r ended_s e =
    absurd (omega (arith, first_of_decimal n r h, ap front e))
number_front (negative (negsuc n)) (unsigned m) r s h k ended_r ended_s e =
    absurd (omega (arith, first_of_decimal m s k, ap front e))
number_front (negative (negsuc n)) (negative (negsuc m)) r s h k ended_r ended_s e =
    let parts = decimal_front (suc n) (suc m) r s (omega arith) (omega arith) ended_r ended_s (ap (drop 1) e) in
    let same : n ≡ m = omega (arith, parts.0) in
    (ap (λ j. negative (negsuc j)) same, parts.1)
number_front (negative (pos n)) m r s h k ended_r ended_s e = absurd h
number_front (float x) m r s h k ended_r ended_s e = absurd h
number_front n (negative (pos m)) r s h k ended_r ended_s e = absurd k
number_front n (float x) r s h k ended_r ended_s e = absurd k

-- ---- what a text begins with

-- what the first byte says of the data: a closing bracket begins none
abbrev opens : ℕ → ℕ
opens b = if b == 110 then 0 else (if b == 34 then 1
    else (if b == 91 then 2 else (if b == 123 then 3 else (if nat_le b 57 then 4 else 5))))

abbrev mark : Data → ℕ
mark null = 0
mark (boolean b) = 6
mark (number n) = 4
mark (string s) = 1
mark (array ds) = 2
mark (object ms) = 3

opens_number : (b : ℕ) → b ≤ 57 → 45 ≤ b → opens b ≡ 4
opens_number b high low = rw (
  ne_eqb b 110 (λ e. omega arith),
  ne_eqb b 34 (λ e. omega arith),
  ne_eqb b 91 (λ e. omega arith),
  ne_eqb b 123 (λ e. omega arith),
  le-leb b 57 high,
) refl

number_opens : (n : Num) (r : List ℕ) → IsShort n → opens (front (number_text n ++ r)) ≡ 4
number_opens (unsigned n) r h = let digit = first_of_decimal n r h in opens_number _ digit.1 (omega (arith, digit.0))
number_opens (negative (pos n)) r h = absurd h
number_opens (negative (negsuc n)) r h = refl
number_opens (float x) r h = absurd h

opens_mark : (d : Data) (r : List ℕ) → IsPlain d → opens (front (compact_text d ++ r)) ≡ mark d
opens_mark null r h = refl
opens_mark (boolean b) r h = absurd h
opens_mark (number n) r h = number_opens n r h
opens_mark (string s) r h = refl
opens_mark (array ds) r h = refl
opens_mark (object ms) r h = refl

same_mark : (d e : Data) (r s : List ℕ) → IsPlain d → IsPlain e → compact_text d ++ r ≡ compact_text e ++ s
    → mark d ≡ mark e
same_mark d e r s h k same = sym (opens_mark d r h) ∙ ap (λ l. opens (front l)) same ∙ opens_mark e s k

no_close : (d : Data) → 5 ≡ mark d → ⊥
no_close null = clash 5 0 refl
no_close (boolean b) = clash 5 6 refl
no_close (number n) = clash 5 4 refl
no_close (string s) = clash 5 1 refl
no_close (array ds) = clash 5 2 refl
no_close (object ms) = clash 5 3 refl

-- ---- data

ends_items : (ds : Items) (r : List ℕ) → Ends (items_text true ds ++ r)
ends_items no_items r = λ h. omega (arith, h)
ends_items (item d ds) r = λ h. omega (arith, h)

ends_members : (ms : Members) (r : List ℕ) → Ends (members_text true ms ++ r)
ends_members no_members r = λ h. omega (arith, h)
ends_members (member k d ms) r = λ h. omega (arith, h)

regroup : (q a b c : List ℕ) → (q ++ (a ++ b)) ++ c ≡ q ++ (a ++ (b ++ c))
regroup q a b c = append_assoc q (a ++ b) c ∙ ap (λ l. q ++ l) (append_assoc a b c)

-- what stands after a comma, or after none
past_comma : (later : Bool) (a b r c d s : List ℕ) → (comma_if later ++ (a ++ b)) ++ r ≡ (comma_if later ++ (c ++ d))
    ++ s → a ++ (b ++ r) ≡ c ++ (d ++ s)
past_comma later a b r c d s e =
    append_cancel_left (comma_if later) _ _ (sym (regroup (comma_if later) a b r) ∙ e ∙ regroup (comma_if later) c d s)

no_items_front : (later : Bool) (d : Data) (ds : Items) (r s : List ℕ) → IsPlain d
    → 93 ∷ r ≡ items_text later (item d ds) ++ s → ⊥
no_items_front true d ds r s h e = clash 93 44 refl (ap front e)
no_items_front false d ds r s h e =
    no_close d (ap (λ l. opens (front l)) (e ∙ append_assoc (compact_text d) (items_text true ds) s) ∙ opens_mark d _ h)

no_members_front : (later : Bool) (k : List ℕ) (d : Data) (ms : Members) (r s : List ℕ)
    → 125 ∷ r ≡ members_text later (member k d ms) ++ s → ⊥
no_members_front true k d ms r s e = clash 125 44 refl (ap front e)
no_members_front false k d ms r s e = clash 125 34 refl (ap front e)

mutual
  data_front : (d e : Data) (r s : List ℕ) → IsPlain d → IsPlain e → Ends r → Ends s
      → compact_text d ++ r ≡ compact_text e ++ s → (d ≡ e) × (r ≡ s)
  data_front null null r s h k ended_r ended_s same = (refl, ap (drop 4) same)
  data_front (boolean b) (boolean c) r s h k ended_r ended_s same = absurd h
  data_front (number n) (number m) r s h k ended_r ended_s same = let parts =
      number_front n m r s h k ended_r ended_s same in (ap number parts.0, parts.1)
  data_front (string t) (string u) r s h k ended_r ended_s same = let parts = string_front t u r s h k same in
      (ap string parts.0, parts.1)
  data_front (array ds) (array es) r s h k ended_r ended_s same = let parts =
      items_front false ds es r s h k (ap (drop 1) same) in (ap array parts.0, parts.1)
  data_front (object ms) (object ns) r s h k ended_r ended_s same = let parts =
      members_front false ms ns r s h k (ap (drop 1) same) in (ap object parts.0, parts.1)
  data_front d e r s h k ended_r ended_s same = absurd (clash (mark d) (mark e) refl (same_mark d e r s h k same))

  items_front : (later : Bool) (ds es : Items) (r s : List ℕ) → ItemsArePlain ds → ItemsArePlain es
      → items_text later ds ++ r ≡ items_text later es ++ s → (ds ≡ es) × (r ≡ s)
  items_front later no_items no_items r s h k same = (refl, ap (drop 1) same)
  items_front later no_items (item e es) r s h k same = absurd (no_items_front later e es r s k.0 same)
  items_front later (item d ds) no_items r s h k same = absurd (no_items_front later d ds s r h.0 (sym same))
  items_front later (item d ds) (item e es) r s h k same =
      let first = data_front d e _ _ h.0 k.0 (ends_items ds r) (ends_items es s)
      (past_comma later (compact_text d) (items_text true ds) r (compact_text e) (items_text true es) s same) in
      let rest = items_front true ds es r s h.1 k.1 first.1 in
      (ap₂ item first.0 rest.0, rest.1)

  members_front : (later : Bool) (ms ns : Members) (r s : List ℕ) → MembersArePlain ms → MembersArePlain ns
      → members_text later ms ++ r ≡ members_text later ns ++ s → (ms ≡ ns) × (r ≡ s)
  members_front later no_members no_members r s h k same = (refl, ap (drop 1) same)
  members_front later no_members (member l e ns) r s h k same = absurd (no_members_front later l e ns r s same)
  members_front later (member l d ms) no_members r s h k same = absurd (no_members_front later l d ms s r (sym same))
  members_front later (member l d ms) (member m e ns) r s h k same =
      let after_l = compact_text d ++ members_text true ms in
      let after_m = compact_text e ++ members_text true ns in
      let name = string_front l m (58 ∷ (after_l ++ r)) (58 ∷ (after_m ++ s)) h.0 k.0
      (past_comma later (compact_text (string l)) (58 ∷ after_l) r (compact_text (string m)) (58 ∷ after_m) s same)
      in
      let values = sym (append_assoc (compact_text d) (members_text true ms) r) ∙ ap (drop 1) name.1
      ∙ append_assoc (compact_text e) (members_text true ns) s in
      let first = data_front d e _ _ h.1 k.1 (ends_members ms r) (ends_members ns s) values in
      let rest = members_front true ms ns r s h.2 k.2 first.1 in
      (λ i. member (name.0 i) (first.0 i) (rest.0 i), rest.1)

-- data of one text, before a byte that is no digit, are equal
pub compact_text-tells : (d e : Data) (byte : ℕ) → IsPlain d → IsPlain e → (digit_value byte < 10 → ⊥)
    → compact_text d ++ byte ∷ [] ≡ compact_text e ++ byte ∷ [] → d ≡ e
compact_text-tells d e byte h k ended same = (data_front d e (byte ∷ []) (byte ∷ []) h k ended ended same).0
