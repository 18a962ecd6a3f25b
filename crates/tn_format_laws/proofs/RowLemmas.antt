-- A row is a line: no field of it has a line feed, since names have none.
use Rattle.std.proofs.Common.{◌≡◌, ◌≢◌, ℕ, zero, suc, ℤ, Bool, true, false, cond, ◌==◌, List, [], ◌∷◌, ◌++◌, length, map, All, Option, Some, None, slice_get, refl, sym, ap, ◌∙◌, subst, arith, inl, inr, true≢false, ne_eqb}
use Rattle.std.specs.Prelude.{flat_map, not, unwrap_or}
use Rattle.std.specs.Fmt.{decimal, signed_decimal}
use Rattle.std.specs.List.{list_all}
use Rattle.std.proofs.lemmas.Bool.{cases_eq}
use Rattle.std.proofs.lemmas.List.{append_assoc, length-map}
use Rattle.csv.specs.Writing.{default_writer, escaped, field_text, fields_text, is_blank, needs_quotes, quoted, row_body}
use Rattle.tn_model.specs.declared.ends.Ends.{Ends}
use Rattle.tn_said.specs.declared.holding.Holding.{Holding}
use Rattle.tn_said.specs.declared.units.TradeUnits.{TradeUnits}
use Rattle.tn_said.specs.declared.units.UnitHolding.{UnitHolding}
use Rattle.tn_said.specs.declared.said.Said.{Said}
use Rattle.tn_said.specs.declared.said.Said.TheVariants.{Usage, ReadFault, NoMemory, Fault, Equilibrium, Better, BetterByCounts, Impossible, Accepted, ExchangeFails, Supported, SupportedByCounts, Cycle, CycleByCounts, Solved, SolvedByCounts, Drill, Ranges, RangesByCounts, Session, SessionByCounts, Drops, DropsByCounts, Completes, CompletesByCounts, Blocks, Valid, Invalid, Cases, Page, Firms, FirmsByCounts}
use Rattle.tn_names.specs.Names.{IsNameList, NameLists, is_between, is_name_byte, most_letters}
use Rattle.tn_answer.specs.AnswerText.{answer_form, answer_line, answer_table, text_of}
use Rattle.tn_answer.specs.Rows.{bound_text, bounds_row, bundle_text, buyer_text, deal_row, each_from, entry_text, firm_row, flag_text, held_row, is_listed, is_nothing, name_text, on_flags, on_units, price_row, range_row, rows_text, seller_text, spaced_text, unit_bundle_text, unit_firm_row, unit_range_row, units_of}
use Rattle.tn_answer.specs.declared.layout.Layout.{Layout}
use Rattle.tn_answer.specs.declared.layout.Layout.TheVariants.{Object, Rows, WideRows}
use Rattle.tn_format_laws.specs.Lines.{AreLines, RowsAreLines}
use Rattle.tn_format_laws.proofs.LineLemmas.{all_other, append_unbroken, both_true, decimal_unbroken, each_true, either_unbroken, is_other, is_unbroken, signed_unbroken}

abbrev are_unbroken : List (List ℕ) → Bool
are_unbroken fields = list_all is_unbroken fields

-- ---- the text of a row

escaped_unbroken : (field : List ℕ) → is_unbroken field ≡ true → is_unbroken (escaped default_writer field) ≡ true
unfolding escaped
escaped_unbroken [] unbroken = refl
escaped_unbroken (b ∷ rest) unbroken =
    let parts = each_true (is_other b) (is_unbroken rest) unbroken in
    let later = both_true (is_other b) _ parts.0 (escaped_unbroken rest parts.1) in
    either_unbroken (b == 34) (34 ∷ b ∷ escaped default_writer rest) (b ∷ escaped default_writer rest) later later

field_unbroken : (field : List ℕ) → is_unbroken field ≡ true → is_unbroken (field_text default_writer field) ≡ true
field_unbroken field unbroken =
    either_unbroken (needs_quotes default_writer field) (quoted default_writer field) field
    (append_unbroken (escaped default_writer field) (34 ∷ []) (escaped_unbroken field unbroken) refl) unbroken

fields_unbroken : (fields : List (List ℕ)) → are_unbroken fields ≡ true
    → is_unbroken (fields_text default_writer fields) ≡ true
unfolding fields_text
fields_unbroken [] are = refl
fields_unbroken (field ∷ rest) are =
    let parts = each_true (is_unbroken field) (are_unbroken rest) are in
    append_unbroken (field_text default_writer field) (fields_text default_writer rest)
    (field_unbroken field parts.0) (fields_unbroken rest parts.1)

body_unbroken : (fields : List (List ℕ)) → are_unbroken fields ≡ true
    → is_unbroken (row_body default_writer fields) ≡ true
body_unbroken [] are = refl
body_unbroken (field ∷ rest) are =
    let parts = each_true (is_unbroken field) (are_unbroken rest) are in
    append_unbroken (field_text default_writer field) (fields_text default_writer rest)
    (field_unbroken field parts.0) (fields_unbroken rest parts.1)

-- what stands for a row that shows nothing
abbrev blank_of : List (List ℕ) → List ℕ
blank_of fields = cond (is_blank default_writer fields) (34 ∷ 34 ∷ []) []

abbrev line_of : List (List ℕ) → List ℕ
line_of fields = row_body default_writer fields ++ blank_of fields

line_unbroken : (fields : List (List ℕ)) → are_unbroken fields ≡ true → is_unbroken (line_of fields) ≡ true
line_unbroken fields are =
    append_unbroken (row_body default_writer fields) (blank_of fields) (body_unbroken fields are)
    (either_unbroken (is_blank default_writer fields) (34 ∷ 34 ∷ []) [] refl refl)

text_is : (rows : List (List (List ℕ))) → rows_text rows ≡ flat_map (λ line. line ++ 10 ∷ []) (map line_of rows)
text_is [] = refl
text_is (row ∷ rows) =
    ap (λ l. l ++ rows_text rows) (sym (append_assoc (row_body default_writer row) (blank_of row) (10 ∷ [])))
    ∙ ap (λ l. (line_of row ++ 10 ∷ []) ++ l) (text_is rows)

lines_unbroken : (rows : List (List (List ℕ))) → list_all are_unbroken rows ≡ true
    → All (λ line. All (λ byte. byte ≢ 10) line) (map line_of rows)
lines_unbroken [] are k d below = absurd (omega (arith, below))
lines_unbroken (row ∷ rows) are zero d below =
    all_other (line_of row) (line_unbroken row (each_true (are_unbroken row) (list_all are_unbroken rows) are).0)
lines_unbroken (row ∷ rows) are (suc k) d below =
    lines_unbroken rows (each_true (are_unbroken row) (list_all are_unbroken rows) are).1 k d (omega (arith, below))

rows_are_lines_of : (rows : List (List (List ℕ))) → list_all are_unbroken rows ≡ true
    → AreLines (rows_text rows) (length rows)
rows_are_lines_of rows are = record {
  lines = map line_of rows;
  counted = length-map rows line_of;
  are = text_is rows;
  unbroken = lines_unbroken rows are;
}

-- ---- fields

name_byte_other : (b : ℕ) → is_name_byte b ≡ true → is_other b ≡ true
name_byte_other b named = elim (cases_eq b 10) [
  | inl feed ↦ absurd (true≢false (sym (subst (λ c. is_name_byte c ≡ true) feed named)))
  | inr other ↦ ap not (ne_eqb b 10 other)
]

bytes_unbroken : (bytes : List ℕ) → list_all is_name_byte bytes ≡ true → is_unbroken bytes ≡ true
bytes_unbroken [] named = refl
bytes_unbroken (b ∷ rest) named =
    let parts = each_true (is_name_byte b) (list_all is_name_byte rest) named in
    both_true (is_other b) (is_unbroken rest) (name_byte_other b parts.0) (bytes_unbroken rest parts.1)

flag_unbroken : (flag : Bool) → is_unbroken (flag_text flag) ≡ true
flag_unbroken true = refl
flag_unbroken false = refl

-- the fields of a column
abbrev IsUnbrokenColumn : (ℕ → List ℕ) → Type 0
IsUnbrokenColumn column = (k : ℕ) → is_unbroken (column k) ≡ true

flags_unbroken : (on : List ℕ) → IsUnbrokenColumn (on_flags on)
flags_unbroken on k = flag_unbroken (is_listed on k)

units_unbroken : (counts : List ℕ) → IsUnbrokenColumn (on_units counts)
units_unbroken counts k = decimal_unbroken (units_of counts k)

bound_unbroken : (bound : Option ℤ) → is_unbroken (bound_text bound) ≡ true
bound_unbroken None = refl
bound_unbroken (Some z) = signed_unbroken z

module _ {A : Type 0} (text : A → List ℕ) (unbroken : (x : A) → is_unbroken (text x) ≡ true) where
  rest_unbroken : (xs : List A) → is_unbroken (flat_map (λ x. 32 ∷ text x) xs) ≡ true
  rest_unbroken [] = refl
  rest_unbroken (x ∷ xs) =
      append_unbroken (text x) (flat_map (λ y. 32 ∷ text y) xs) (unbroken x) (rest_unbroken xs)

  spaced_unbroken : (xs : List A) → is_unbroken (spaced_text text xs) ≡ true
  spaced_unbroken [] = refl
  spaced_unbroken (x ∷ xs) =
      append_unbroken (text x) (flat_map (λ y. 32 ∷ text y) xs) (unbroken x) (rest_unbroken xs)

module _ (list : List (List ℕ)) (is : IsNameList list) where
  found_unbroken : (k : ℕ) (found : Option (List ℕ)) → slice_get list k ≡ found
      → is_unbroken (unwrap_or found []) ≡ true
  found_unbroken k None e = refl
  found_unbroken k (Some name) e =
      bytes_unbroken name (each_true (is_between 1 most_letters (length name)) (list_all is_name_byte name)
      (is.named k name e)).1

  name_unbroken : (k : ℕ) → is_unbroken (name_text list k) ≡ true
  name_unbroken k = found_unbroken k (slice_get list k) refl

  bundle_unbroken : (ks : List ℕ) → is_unbroken (bundle_text list ks) ≡ true
  bundle_unbroken = spaced_unbroken (name_text list) name_unbroken

  entry_unbroken : (entry : TradeUnits) → is_unbroken (entry_text list entry) ≡ true
  entry_unbroken entry =
      append_unbroken (name_text list entry.trade) (58 ∷ decimal entry.units) (name_unbroken entry.trade)
      (decimal_unbroken entry.units)

  unit_bundle_unbroken : (bundle : List TradeUnits) → is_unbroken (unit_bundle_text list bundle) ≡ true
  unit_bundle_unbroken = spaced_unbroken (entry_text list) entry_unbroken

  seller_unbroken : (trade : Option Ends) → is_unbroken (seller_text list trade) ≡ true
  seller_unbroken None = refl
  seller_unbroken (Some trade) = name_unbroken trade.seller

  buyer_unbroken : (trade : Option Ends) → is_unbroken (buyer_text list trade) ≡ true
  buyer_unbroken None = refl
  buyer_unbroken (Some trade) = name_unbroken trade.buyer

-- ---- tables

each_row_unbroken : {A : Type 0} (row : ℕ → A → List (List ℕ)) → ((k : ℕ) (x : A) → are_unbroken (row k x) ≡ true)
    → (k : ℕ) (xs : List A) → list_all are_unbroken (each_from row k xs) ≡ true
each_row_unbroken row one k [] = refl
each_row_unbroken row one k (x ∷ xs) =
    both_true (are_unbroken (row k x)) _ (one k x) (each_row_unbroken row one (suc k) xs)

-- the rows of a table, where there is one
abbrev HasUnbrokenRows : Option (List (List (List ℕ))) → Type 0
HasUnbrokenRows None = Unit {0}
HasUnbrokenRows (Some rows) = list_all are_unbroken rows ≡ true

module _ (names : NameLists) (firms : IsNameList names.firms) (trades : IsNameList names.trades) where
  price_unbroken : (on : ℕ → List ℕ) → IsUnbrokenColumn on → (k : ℕ) (price : ℤ)
      → are_unbroken (price_row names on k price) ≡ true
  price_unbroken on column k price =
      both_true (is_unbroken (name_text names.trades k)) _ (name_unbroken names.trades trades k)
      (both_true (is_unbroken (on k)) _ (column k)
      (both_true (is_unbroken (signed_decimal price)) true (signed_unbroken price) refl))

  -- the fields that deals and ranges begin with
  ends_unbroken : (on : ℕ → List ℕ) → IsUnbrokenColumn on → (ends : List Ends) (k : ℕ) (rest : List (List ℕ))
      → are_unbroken rest ≡ true
      → are_unbroken (name_text names.trades k ∷ seller_text names.firms (slice_get ends k)
      ∷ buyer_text names.firms (slice_get ends k) ∷ on k ∷ rest) ≡ true
  ends_unbroken on column ends k rest later =
      both_true (is_unbroken (name_text names.trades k)) _ (name_unbroken names.trades trades k)
      (both_true (is_unbroken (seller_text names.firms (slice_get ends k))) _
      (seller_unbroken names.firms firms (slice_get ends k))
      (both_true (is_unbroken (buyer_text names.firms (slice_get ends k))) _
      (buyer_unbroken names.firms firms (slice_get ends k))
      (both_true (is_unbroken (on k)) _ (column k) later)))

  deal_unbroken : (on : ℕ → List ℕ) → IsUnbrokenColumn on → (ends : List Ends) (k : ℕ) (price : ℤ)
      → are_unbroken (deal_row names on ends k price) ≡ true
  deal_unbroken on column ends k price =
      ends_unbroken on column ends k (signed_decimal price ∷ [])
      (both_true (is_unbroken (signed_decimal price)) true (signed_unbroken price) refl)

  bounds_unbroken : (on : ℕ → List ℕ) → IsUnbrokenColumn on → (ends : List Ends) (k : ℕ) (low high : Option ℤ)
      → are_unbroken (bounds_row names on ends k low high) ≡ true
  bounds_unbroken on column ends k low high =
      ends_unbroken on column ends k (bound_text low ∷ bound_text high ∷ [])
      (both_true (is_unbroken (bound_text low)) _ (bound_unbroken low)
      (both_true (is_unbroken (bound_text high)) true (bound_unbroken high) refl))

  held_unbroken : (k : ℕ) (has best : List ℕ) (worth utility : Option ℤ) (best_utility : ℤ) (gain : Option ℤ)
      → is_unbroken has ≡ true → is_unbroken best ≡ true
      → are_unbroken (held_row names.firms k has best worth utility best_utility gain) ≡ true
  held_unbroken k has best worth utility best_utility gain own other =
      both_true (is_unbroken (name_text names.firms k)) _ (name_unbroken names.firms firms k)
      (both_true (is_unbroken (flag_text (is_nothing gain))) _ (flag_unbroken (is_nothing gain))
      (both_true (is_unbroken (bound_text worth)) _ (bound_unbroken worth)
      (both_true (is_unbroken (bound_text utility)) _ (bound_unbroken utility)
      (both_true (is_unbroken (signed_decimal best_utility)) _ (signed_unbroken best_utility)
      (both_true (is_unbroken (bound_text gain)) _ (bound_unbroken gain)
      (both_true (is_unbroken has) _ own (both_true (is_unbroken best) true other refl)))))))

  holding_unbroken : (k : ℕ) (holding : Holding) → are_unbroken (firm_row names k holding) ≡ true
  holding_unbroken k holding =
      held_unbroken k (bundle_text names.trades holding.has) (bundle_text names.trades holding.best) holding.worth
      holding.utility holding.best_utility holding.gain (bundle_unbroken names.trades trades holding.has)
      (bundle_unbroken names.trades trades holding.best)

  unit_holding_unbroken : (k : ℕ) (holding : UnitHolding) → are_unbroken (unit_firm_row names k holding) ≡ true
  unit_holding_unbroken k holding =
      held_unbroken k (unit_bundle_text names.trades holding.has) (unit_bundle_text names.trades holding.best)
      holding.worth holding.utility holding.best_utility holding.gain
      (unit_bundle_unbroken names.trades trades holding.has) (unit_bundle_unbroken names.trades trades holding.best)

  table_unbroken : (said : Said) (layout : Layout) → HasUnbrokenRows (answer_table names said layout)
  table_unbroken Usage layout = tt
  table_unbroken ReadFault layout = tt
  table_unbroken NoMemory layout = tt
  table_unbroken (Fault fault) layout = tt
  table_unbroken (Equilibrium surplus) layout = tt
  table_unbroken (Better firm bundle gain) layout = tt
  table_unbroken (BetterByCounts firm bundle gain) layout = tt
  table_unbroken (Impossible firm) layout = tt
  table_unbroken Accepted layout = tt
  table_unbroken (ExchangeFails firm x y at) layout = tt
  table_unbroken (Supported on prices ends) Object = tt
  table_unbroken (Supported on prices ends) Rows =
      each_row_unbroken (deal_row names (on_flags on) ends) (deal_unbroken (on_flags on) (flags_unbroken on) ends) 0 prices
  table_unbroken (Supported on prices ends) WideRows = tt
  table_unbroken (SupportedByCounts counts prices ends) Object = tt
  table_unbroken (SupportedByCounts counts prices ends) Rows =
      each_row_unbroken (deal_row names (on_units counts) ends)
      (deal_unbroken (on_units counts) (units_unbroken counts) ends) 0 prices
  table_unbroken (SupportedByCounts counts prices ends) WideRows = tt
  table_unbroken (Cycle nodes cost) layout = tt
  table_unbroken (CycleByCounts nodes cost) layout = tt
  table_unbroken (Solved on prices surplus ends) Object = tt
  table_unbroken (Solved on prices surplus ends) Rows =
      each_row_unbroken (price_row names (on_flags on)) (price_unbroken (on_flags on) (flags_unbroken on)) 0 prices
  table_unbroken (Solved on prices surplus ends) WideRows =
      each_row_unbroken (deal_row names (on_flags on) ends) (deal_unbroken (on_flags on) (flags_unbroken on) ends) 0 prices
  table_unbroken (SolvedByCounts counts prices surplus ends) Object = tt
  table_unbroken (SolvedByCounts counts prices surplus ends) Rows =
      each_row_unbroken (price_row names (on_units counts)) (price_unbroken (on_units counts) (units_unbroken counts)) 0
      prices
  table_unbroken (SolvedByCounts counts prices surplus ends) WideRows =
      each_row_unbroken (deal_row names (on_units counts) ends)
      (deal_unbroken (on_units counts) (units_unbroken counts) ends) 0 prices
  table_unbroken (Drill size start firms surplus) layout = tt
  table_unbroken (Ranges on ranges ends) Object = tt
  table_unbroken (Ranges on ranges ends) Rows =
      each_row_unbroken (range_row names (on_flags on) ends) (λ k range. bounds_unbroken (on_flags on)
      (flags_unbroken on) ends k range.low range.high) 0 ranges
  table_unbroken (Ranges on ranges ends) WideRows = tt
  table_unbroken (RangesByCounts counts ranges ends) Object = tt
  table_unbroken (RangesByCounts counts ranges ends) Rows =
      each_row_unbroken (unit_range_row names (on_units counts) ends) (λ k range. bounds_unbroken (on_units counts)
      (units_unbroken counts) ends k range.low range.high) 0 ranges
  table_unbroken (RangesByCounts counts ranges ends) WideRows = tt
  table_unbroken (Session edits) layout = tt
  table_unbroken (SessionByCounts edits) layout = tt
  table_unbroken (Drops firm keeps gain over) layout = tt
  table_unbroken (DropsByCounts firm keeps gain over) layout = tt
  table_unbroken (Completes prices over) layout = tt
  table_unbroken (CompletesByCounts prices over) layout = tt
  table_unbroken (Blocks contracts over) layout = tt
  table_unbroken Valid layout = tt
  table_unbroken (Invalid reason) layout = tt
  table_unbroken (Cases count failed) layout = tt
  table_unbroken (Page page) layout = tt
  table_unbroken (Firms content told surplus) Object = tt
  table_unbroken (Firms content told surplus) Rows =
      each_row_unbroken (firm_row names) holding_unbroken 0 told
  table_unbroken (Firms content told surplus) WideRows = tt
  table_unbroken (FirmsByCounts content told surplus) Object = tt
  table_unbroken (FirmsByCounts content told surplus) Rows =
      each_row_unbroken (unit_firm_row names) unit_holding_unbroken 0 told
  table_unbroken (FirmsByCounts content told surplus) WideRows = tt

pub rows_are_lines : RowsAreLines
unfolding answer_line
rows_are_lines layout names said rows firms trades is =
    subst (λ found. AreLines (text_of found (answer_form names said)) (length rows)) (sym is)
    (rows_are_lines_of rows (subst HasUnbrokenRows is (table_unbroken names firms trades said layout)))
