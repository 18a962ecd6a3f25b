-- No value's text has a line feed: in a text one is escaped, and numbers have digits alone.
use Rattle.std.proofs.Common.{◌≡◌, ◌≢◌, ℕ, zero, suc, ◌+◌, ◌/◌, ◌%◌, ◌≤◌, ℤ, pos, negsuc, Bool, true, false, cond, ◌==◌, ◌&&◌, ◌||◌, List, [], ◌∷◌, ◌++◌, All, None, inl, inr, refl, sym, ap, ◌∙◌, subst, arith, true≢false, ne_eqb, eq-eqb}
use Rattle.std.specs.Prelude.{not, nat_lt, decimal}
use Rattle.std.specs.Char.{digit_char}
use Rattle.std.specs.Fmt.{digit_glyph, digits, digits_onto, signed_decimal}
use Rattle.std.specs.List.{list_all}
use Rattle.std.proofs.lemmas.Bool.{cases_eq}
use Rattle.json.specs.Print.{escape, escape_byte, escape_letter, quoted}
use Rattle.serde_json.specs.Data.{Data, Items, Members, Num, array, boolean, float, item, member, negative, no_items, no_members, null, number, object, string, unsigned}
use Rattle.serde_json.specs.Written.{comma_if, compact_text, items_text, members_text, number_text}
use Rattle.tn_said.specs.declared.said.Said.{Said}
use Rattle.tn_said.specs.declared.said.Said.TheVariants.{Usage, ReadFault, NoMemory, Fault, Equilibrium, Better, BetterByCounts, Impossible, Accepted, ExchangeFails, Supported, SupportedByCounts, Cycle, CycleByCounts, Solved, SolvedByCounts, Drill, Ranges, RangesByCounts, Session, SessionByCounts, Drops, DropsByCounts, Completes, CompletesByCounts, Blocks, Valid, Invalid, Cases, Page, Firms, FirmsByCounts}
use Rattle.tn_names.specs.Names.{NameLists}
use Rattle.tn_answer.specs.AnswerText.{answer_data, answer_form, answer_line, answer_table, form_text, text_of}
use Rattle.tn_answer.specs.declared.layout.Layout.{Layout}
use Rattle.tn_answer.specs.declared.layout.Layout.TheVariants.{Object}
use Rattle.tn_format_laws.specs.Lines.{AnswersAreOneLine, IsOneLine, is_page}

abbrev pub is_other : ℕ → Bool
is_other byte = not (byte == 10)

abbrev pub is_unbroken : List ℕ → Bool
is_unbroken bytes = list_all is_other bytes

pub both_true : (a b : Bool) → a ≡ true → b ≡ true → (a && b) ≡ true
both_true a b p q = ap (λ c. c && b) p ∙ q

pub each_true : (a b : Bool) → (a && b) ≡ true → (a ≡ true) × (b ≡ true)
each_true true b e = (refl, e)
each_true false b e = absurd (true≢false (sym e))

pub append_unbroken : (xs ys : List ℕ) → is_unbroken xs ≡ true → is_unbroken ys ≡ true → is_unbroken (xs ++ ys) ≡ true
append_unbroken [] ys p q = q
append_unbroken (x ∷ xs) ys p q =
    let parts = each_true (is_other x) (is_unbroken xs) p in
    both_true (is_other x) (is_unbroken (xs ++ ys)) parts.0 (append_unbroken xs ys parts.1 q)

either_other : (b : Bool) (m n : ℕ) → is_other m ≡ true → is_other n ≡ true → is_other (cond b m n) ≡ true
either_other true m n p q = p
either_other false m n p q = q

pub either_unbroken : (b : Bool) (xs ys : List ℕ) → is_unbroken xs ≡ true → is_unbroken ys ≡ true
    → is_unbroken (cond b xs ys) ≡ true
either_unbroken true xs ys p q = p
either_unbroken false xs ys p q = q

past_48 : (n : ℕ) → 48 ≤ n → is_other n ≡ true
past_48 n high = ap not (ne_eqb n 10 (λ e. absurd (omega (arith, e, high))))

-- ---- texts

digit_other : (d : ℕ) → is_other (digit_char d) ≡ true
digit_other d =
    either_other (nat_lt d 10) (48 + d) (87 + d) (past_48 (48 + d) (omega arith))
    (past_48 (87 + d) (omega arith))

letter_other : (x : ℕ) → is_other x ≡ true → is_other (escape_letter x) ≡ true
letter_other x other =
    let tab : is_other (cond (x == 9) 116 0) ≡ true = either_other (x == 9) 116 0 refl refl in
    let turn = either_other (x == 13) 114 (cond (x == 9) 116 0) refl tab in
    let feed = either_other (x == 10) 110 (cond (x == 13) 114 (cond (x == 9) 116 0)) refl turn in
    let form = either_other (x == 12) 102 (cond (x == 10) 110 (cond (x == 13) 114 (cond (x == 9) 116 0))) refl feed in
    let back = either_other (x == 8) 98
    (cond (x == 12) 102 (cond (x == 10) 110 (cond (x == 13) 114 (cond (x == 9) 116 0)))) refl form in
    either_other ((x == 34) || (x == 92)) x
    (cond (x == 8) 98 (cond (x == 12) 102 (cond (x == 10) 110 (cond (x == 13) 114 (cond (x == 9) 116 0))))) other back

other_escaped : (x : ℕ) → is_other x ≡ true → is_unbroken (escape_byte x) ≡ true
unfolding escape_byte
other_escaped x other =
    either_unbroken (nat_lt 0 (escape_letter x)) _ _
    (both_true (is_other (escape_letter x)) true (letter_other x other) refl)
    (either_unbroken (nat_lt x 32) _ _
    (both_true (is_other (digit_char (x / 16))) _ (digit_other (x / 16))
    (both_true (is_other (digit_char (x % 16))) true (digit_other (x % 16)) refl))
    (both_true (is_other x) true other refl))

feed_escaped : is_unbroken (escape_byte 10) ≡ true
unfolding escape_byte
feed_escaped = refl

byte_escaped : (x : ℕ) → is_unbroken (escape_byte x) ≡ true
byte_escaped x = elim (cases_eq x 10) [
  | inl is ↦ subst (λ y. is_unbroken (escape_byte y) ≡ true) (sym is) feed_escaped
  | inr isnt ↦ other_escaped x (ap not (ne_eqb x 10 isnt))
]

text_escaped : (s : List ℕ) → is_unbroken (escape s) ≡ true
text_escaped [] = refl
text_escaped (x ∷ s) = append_unbroken (escape_byte x) (escape s) (byte_escaped x) (text_escaped s)

text_quoted : (s : List ℕ) → is_unbroken (quoted s) ≡ true
text_quoted s = append_unbroken (escape s) (34 ∷ []) (text_escaped s) refl

-- ---- numbers

onto_unbroken : (k n : ℕ) (bytes : List ℕ) → is_unbroken bytes ≡ true
    → is_unbroken (digits_onto k 10 false n bytes) ≡ true
onto_unbroken zero n bytes so_far = so_far
onto_unbroken (suc k) n bytes so_far =
    let more = both_true (is_other (digit_glyph false (n % 10))) (is_unbroken bytes) (digit_other (n % 10)) so_far in
    either_unbroken (n / 10 == 0) _ _ more (onto_unbroken k (n / 10) (digit_glyph false (n % 10) ∷ bytes) more)

pub decimal_unbroken : (n : ℕ) → is_unbroken (decimal n) ≡ true
unfolding digits
decimal_unbroken n = onto_unbroken 64 n [] refl

pub signed_unbroken : (z : ℤ) → is_unbroken (signed_decimal z) ≡ true
signed_unbroken (pos n) = decimal_unbroken n
signed_unbroken (negsuc n) = decimal_unbroken (suc n)

number_unbroken : (n : Num) → is_unbroken (number_text n) ≡ true
number_unbroken (unsigned n) = decimal_unbroken n
number_unbroken (negative z) = signed_unbroken z
number_unbroken (float x) = refl

-- ---- values

comma_unbroken : (later : Bool) → is_unbroken (comma_if later) ≡ true
comma_unbroken true = refl
comma_unbroken false = refl

mutual
  value_unbroken : (d : Data) → is_unbroken (compact_text d) ≡ true
  value_unbroken null = refl
  value_unbroken (boolean true) = refl
  value_unbroken (boolean false) = refl
  value_unbroken (number n) = number_unbroken n
  value_unbroken (string s) = text_quoted s
  value_unbroken (array ds) = items_unbroken false ds
  value_unbroken (object ms) = members_unbroken false ms

  items_unbroken : (later : Bool) (ds : Items) → is_unbroken (items_text later ds) ≡ true
  items_unbroken later no_items = refl
  items_unbroken later (item d ds) =
      append_unbroken (comma_if later) (compact_text d ++ items_text true ds) (comma_unbroken later)
      (append_unbroken (compact_text d) (items_text true ds) (value_unbroken d) (items_unbroken true ds))

  members_unbroken : (later : Bool) (ms : Members) → is_unbroken (members_text later ms) ≡ true
  members_unbroken later no_members = refl
  members_unbroken later (member k d ms) =
      append_unbroken (comma_if later) (quoted k ++ 58 ∷ (compact_text d ++ members_text true ms))
      (comma_unbroken later) (append_unbroken (quoted k) (58 ∷ (compact_text d ++ members_text true ms)) (text_quoted k)
      (append_unbroken (compact_text d) (members_text true ms) (value_unbroken d) (members_unbroken true ms)))

-- ---- answers

pub all_other : (bytes : List ℕ) → is_unbroken bytes ≡ true → All (λ byte. byte ≢ 10) bytes
all_other [] unbroken k d below = absurd (omega (arith, below))
all_other (x ∷ xs) unbroken zero d below = λ feed.
    true≢false (sym (each_true (is_other x) (is_unbroken xs) unbroken).0 ∙ ap not (eq-eqb x 10 feed))
all_other (x ∷ xs) unbroken (suc k) d below =
    all_other xs (each_true (is_other x) (is_unbroken xs) unbroken).1 k d (omega (arith, below))

value_line : (value : Data) → IsOneLine (compact_text value ++ 10 ∷ [])
value_line value = record {
  line = compact_text value;
  is = refl;
  unbroken = all_other (compact_text value) (value_unbroken value);
}

form_line : (names : NameLists) (said : Said) → is_page said ≡ false → IsOneLine (form_text (answer_form names said))
form_line names Usage other = value_line (answer_data names Usage)
form_line names ReadFault other = value_line (answer_data names ReadFault)
form_line names NoMemory other = value_line (answer_data names NoMemory)
form_line names (Fault fault) other = value_line (answer_data names (Fault fault))
form_line names (Equilibrium surplus) other = value_line (answer_data names (Equilibrium surplus))
form_line names (Better firm bundle gain) other = value_line (answer_data names (Better firm bundle gain))
form_line names (BetterByCounts firm bundle gain) other = value_line (answer_data names (BetterByCounts firm bundle gain))
form_line names (Impossible firm) other = value_line (answer_data names (Impossible firm))
form_line names Accepted other = value_line (answer_data names Accepted)
form_line names (ExchangeFails firm x y at) other = value_line (answer_data names (ExchangeFails firm x y at))
form_line names (Supported on prices ends) other = value_line (answer_data names (Supported on prices ends))
form_line names (SupportedByCounts counts prices ends) other =
    value_line (answer_data names (SupportedByCounts counts prices ends))
form_line names (Cycle nodes cost) other = value_line (answer_data names (Cycle nodes cost))
form_line names (CycleByCounts nodes cost) other = value_line (answer_data names (CycleByCounts nodes cost))
form_line names (Solved on prices surplus ends) other = value_line (answer_data names (Solved on prices surplus ends))
form_line names (SolvedByCounts counts prices surplus ends) other =
    value_line (answer_data names (SolvedByCounts counts prices surplus ends))
form_line names (Drill size start firms surplus) other = value_line (answer_data names (Drill size start firms surplus))
form_line names (Ranges on ranges ends) other = value_line (answer_data names (Ranges on ranges ends))
form_line names (RangesByCounts counts ranges ends) other =
    value_line (answer_data names (RangesByCounts counts ranges ends))
form_line names (Session edits) other = value_line (answer_data names (Session edits))
form_line names (SessionByCounts edits) other = value_line (answer_data names (SessionByCounts edits))
form_line names (Drops firm keeps gain over) other = value_line (answer_data names (Drops firm keeps gain over))
form_line names (DropsByCounts firm keeps gain over) other =
    value_line (answer_data names (DropsByCounts firm keeps gain over))
form_line names (Completes prices over) other = value_line (answer_data names (Completes prices over))
form_line names (CompletesByCounts prices over) other = value_line (answer_data names (CompletesByCounts prices over))
form_line names (Blocks contracts over) other = value_line (answer_data names (Blocks contracts over))
form_line names Valid other = value_line (answer_data names Valid)
form_line names (Invalid reason) other = value_line (answer_data names (Invalid reason))
form_line names (Cases count failed) other = value_line (answer_data names (Cases count failed))
form_line names (Page page) other = absurd (true≢false other)
form_line names (Firms content firms surplus) other = value_line (answer_data names (Firms content firms surplus))
form_line names (FirmsByCounts content firms surplus) other =
    value_line (answer_data names (FirmsByCounts content firms surplus))

object_has_no_rows : (names : NameLists) (said : Said) → answer_table names said Object ≡ None
object_has_no_rows names Usage = refl
object_has_no_rows names ReadFault = refl
object_has_no_rows names NoMemory = refl
object_has_no_rows names (Fault fault) = refl
object_has_no_rows names (Equilibrium surplus) = refl
object_has_no_rows names (Better firm bundle gain) = refl
object_has_no_rows names (BetterByCounts firm bundle gain) = refl
object_has_no_rows names (Impossible firm) = refl
object_has_no_rows names Accepted = refl
object_has_no_rows names (ExchangeFails firm x y at) = refl
object_has_no_rows names (Supported on prices ends) = refl
object_has_no_rows names (SupportedByCounts counts prices ends) = refl
object_has_no_rows names (Cycle nodes cost) = refl
object_has_no_rows names (CycleByCounts nodes cost) = refl
object_has_no_rows names (Solved on prices surplus ends) = refl
object_has_no_rows names (SolvedByCounts counts prices surplus ends) = refl
object_has_no_rows names (Drill size start firms surplus) = refl
object_has_no_rows names (Ranges on ranges ends) = refl
object_has_no_rows names (RangesByCounts counts ranges ends) = refl
object_has_no_rows names (Session edits) = refl
object_has_no_rows names (SessionByCounts edits) = refl
object_has_no_rows names (Drops firm keeps gain over) = refl
object_has_no_rows names (DropsByCounts firm keeps gain over) = refl
object_has_no_rows names (Completes prices over) = refl
object_has_no_rows names (CompletesByCounts prices over) = refl
object_has_no_rows names (Blocks contracts over) = refl
object_has_no_rows names Valid = refl
object_has_no_rows names (Invalid reason) = refl
object_has_no_rows names (Cases count failed) = refl
object_has_no_rows names (Page page) = refl
object_has_no_rows names (Firms content firms surplus) = refl
object_has_no_rows names (FirmsByCounts content firms surplus) = refl

line_without_rows : (layout : Layout) (names : NameLists) (said : Said) → is_page said ≡ false
    → answer_table names said layout ≡ None → IsOneLine (answer_line layout names said)
unfolding answer_line
line_without_rows layout names said other none =
    subst (λ rows. IsOneLine (text_of rows (answer_form names said))) (sym none) (form_line names said other)

pub answers_are_one_line : AnswersAreOneLine
answers_are_one_line = record {
  as_object = λ names said other. line_without_rows Object names said other (object_has_no_rows names said);
  without_rows = line_without_rows;
}
