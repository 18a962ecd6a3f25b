-- Answers over the same names that have one text in a layout are written alike.
use Rattle.std.proofs.Common.{length, ◌==◌, ◌≡◌, false, ℕ, ℤ, List, [], ◌∷◌, get_or, Option, None, Some, IfSome, All, FitsSigned, if◌then◌else◌, refl, sym, ap, ◌∙◌, subst, ◌++◌, arith}
use Rattle.tn_said.specs.declared.said.Shown.{Shown}
use Rattle.std.specs.Int.{w64}
use Rattle.tn_model.specs.declared.range.Range.{Range}
use Rattle.tn_said.specs.declared.units.UnitRange.{UnitRange}
use Rattle.tn_said.specs.declared.said.Said.{Said}
use Rattle.tn_said.specs.declared.said.Said.TheVariants.{Fault as FaultIs, Supported, SupportedByCounts, Solved, SolvedByCounts, Ranges, RangesByCounts, Page as PageIs, Firms as FirmsIs, FirmsByCounts}
use Rattle.tn_names.specs.Names.{NameLists, IsNameList}
use Rattle.tn_answer.specs.Rows.{on_flags, on_units}
use Rattle.tn_answer.specs.AnswerText.{fault_data, Form, json, lines, answer_form, answer_table, text_of, data_in, form_text, answer_line}
use Rattle.tn_answer.specs.Sayable.{HasShortBounds, HasShortUnitBounds}
use Rattle.tn_answer.specs.Apart.{AnswersAreToldApart, HasShortNumbers, IsNamedAnswer, IsSameInRows, IsSameInWideRows, IsSameObject}
use Rattle.tn_answer.proofs.DataTexts.{IsPlain, clash, compact_text-tells}
use Rattle.tn_answer.specs.declared.layout.Layout.TheVariants.{Object as AsObject, Rows as AsRows, WideRows as AsWideRows}
use Rattle.tn_answer.proofs.LawLemmas.{object_line}
use Rattle.csv.specs.Writing.{fields_text}
use Rattle.serde_json.specs.Written.{compact_text}
use Rattle.tn_answer.proofs.PlainAnswers.{answer_is_plain}
use Rattle.tn_answer.proofs.SameRows.{firm_rows_alike, same_bounds_rows, same_deals, same_firm_rows, same_prices_alone, same_unit_firm_rows}
use Rattle.tn_answer.proofs.ApartLemmas.{first_byte, page_begins, same_object}
use Rattle.tn_answer.proofs.RowLemmas.{same_on, same_units, same_units_on}

-- ---- forms

-- a line of JSON begins with a brace, and a page with the program's first letter
abbrev beginning : Form → ℕ
beginning (json value) = 123
beginning (lines texts) = 109

begins : (names : NameLists) (said : Said) → first_byte (form_text (answer_form names said))
    ≡ beginning (answer_form names said)
begins names (PageIs page) = page_begins page
begins names (FaultIs fault) = by fault.shown
  where
    by : (shown : Option Shown) → first_byte (compact_text (fault_data names.trades fault shown) ++ 10 ∷ []) ≡ 123
    by None = refl
    by (Some shown) = refl
begins names said = refl

module _ (names : NameLists) (first second : Said) where
  starts : (said : Said) (l : Form) → answer_form names said ≡ l → first_byte (form_text l) ≡ beginning l
  starts said l e = subst (λ l. first_byte (form_text l) ≡ beginning l) e (begins names said)

  -- equal texts begin alike
  same_beginning : (l m : Form) → answer_form names first ≡ l → answer_form names second ≡ m → form_text l ≡ form_text m
      → beginning l ≡ beginning m
  same_beginning l m p q same = sym (starts first l p) ∙ ap first_byte same ∙ starts second m q

  same_data : (l m : Form) → answer_form names first ≡ l → answer_form names second ≡ m → IsPlain (data_in l)
      → IsPlain (data_in m) → form_text l ≡ form_text m → data_in l ≡ data_in m
  same_data (json d) (json e) p q plain_d plain_e same =
      compact_text-tells d e 10 plain_d plain_e (λ h. omega (arith, h)) same
  same_data (json d) (lines t) p q plain_d plain_e same =
      absurd (clash 123 109 refl (same_beginning (json d) (lines t) p q same))
  same_data (lines t) (json e) p q plain_d plain_e same =
      absurd (clash 109 123 refl (same_beginning (lines t) (json e) p q same))
  same_data (lines t) (lines u) p q plain_d plain_e same = refl

-- ---- rows

module _ (names : NameLists) (firms : IsNameList names.firms) (trades : IsNameList names.trades) where
  -- answers of one text are written alike as objects
  told_apart : (first second : Said) → IsNamedAnswer names first → IsNamedAnswer names second → HasShortNumbers first
      → HasShortNumbers second
      → form_text (answer_form names first) ≡ form_text (answer_form names second) → IsSameObject names first second
  told_apart first second h k short short' same =
      let plain_first = answer_is_plain names firms trades first short in
      let plain_second = answer_is_plain names firms trades second short' in
      same_object names firms trades first second h k short short' same
      (same_data names first second (answer_form names first) (answer_form names second) refl refl plain_first
      plain_second same)

  -- the first byte of an answer that isn't rows
  abbrev start : Said → ℕ
  start said = beginning (answer_form names said)

  abbrev byte : ℕ → List ℕ → ℕ
  byte k text = get_or text k 0

  -- which table a text has, 0 where it has none: heads differ in a byte
  abbrev table_in : List ℕ → ℕ
  table_in text =
      if byte 0 text == 102 then 4
      else if byte 0 text == 116 then (if byte 6 text == 111 then 2 else if byte 22 text == 112 then 1 else 3)
      else 0

  -- which table an answer has in rows
  abbrev table_of : Said → ℕ
  table_of (Supported on prices ends) = 1
  table_of (SupportedByCounts counts prices ends) = 1
  table_of (Solved on prices surplus ends) = 2
  table_of (SolvedByCounts counts prices surplus ends) = 2
  table_of (Ranges on ranges ends) = 3
  table_of (RangesByCounts counts ranges ends) = 3
  table_of (FirmsIs content holdings surplus) = 4
  table_of (FirmsByCounts content holdings surplus) = 4
  table_of said = 0

  no_table_in : (l : Form) → first_byte (form_text l) ≡ beginning l → table_in (form_text l) ≡ 0
  no_table_in (json value) begin = rw (begin) refl
  no_table_in (lines texts) begin = rw (begin) refl

  rows_say : (said : Said) → table_in (text_of (answer_table names said AsRows) (answer_form names said)) ≡ table_of said
  unfolding fields_text
  rows_say (Supported on prices ends) = refl
  rows_say (SupportedByCounts counts prices ends) = refl
  rows_say (Solved on prices surplus ends) = refl
  rows_say (SolvedByCounts counts prices surplus ends) = refl
  rows_say (Ranges on ranges ends) = refl
  rows_say (RangesByCounts counts ranges ends) = refl
  rows_say (FirmsIs content holdings surplus) = refl
  rows_say (FirmsByCounts content holdings surplus) = refl
  rows_say said = no_table_in (answer_form names said) (begins names said)

  -- answers with other tables have other rows
  rows_differ : (first second : Said) → (table_of first == table_of second) ≡ false
      → text_of (answer_table names first AsRows) (answer_form names first)
      ≡ text_of (answer_table names second AsRows) (answer_form names second) → ⊥
  rows_differ first second other e =
      clash (table_of first) (table_of second) other (sym (rows_say first) ∙ ap table_in e ∙ rows_say second)

  -- rows begin with another byte than other answers
  no_rows : (l : Form) (text : List ℕ) (first : ℕ) → (first == 123) ≡ false → (first == 109) ≡ false
      → form_text l ≡ text → first_byte (form_text l) ≡ beginning l → byte 0 text ≡ first → ⊥
  no_rows (json value) text first brace letter e at is =
      clash first 123 brace (sym is ∙ ap (byte 0) (sym e) ∙ at)
  no_rows (lines texts) text first brace letter e at is =
      clash first 109 letter (sym is ∙ ap (byte 0) (sym e) ∙ at)

  -- an answer without rows beside any other
  same_beside_rows : (first second : Said) → IsNamedAnswer names first → IsNamedAnswer names second
      → HasShortNumbers first → HasShortNumbers second
      → form_text (answer_form names first) ≡ text_of (answer_table names second AsRows) (answer_form names second)
      → IsSameObject names first second
  unfolding fields_text
  same_beside_rows first (Supported on prices ends) h k short short' e =
      absurd (no_rows (answer_form names first) _ 116 refl refl e (begins names first) refl)
  same_beside_rows first (SupportedByCounts counts prices ends) h k short short' e =
      absurd (no_rows (answer_form names first) _ 116 refl refl e (begins names first) refl)
  same_beside_rows first (Solved on prices surplus ends) h k short short' e =
      absurd (no_rows (answer_form names first) _ 116 refl refl e (begins names first) refl)
  same_beside_rows first (SolvedByCounts counts prices surplus ends) h k short short' e =
      absurd (no_rows (answer_form names first) _ 116 refl refl e (begins names first) refl)
  same_beside_rows first (Ranges on ranges ends) h k short short' e =
      absurd (no_rows (answer_form names first) _ 116 refl refl e (begins names first) refl)
  same_beside_rows first (RangesByCounts counts ranges ends) h k short short' e =
      absurd (no_rows (answer_form names first) _ 116 refl refl e (begins names first) refl)
  same_beside_rows first (FirmsIs content holdings surplus) h k short short' e =
      absurd (no_rows (answer_form names first) _ 102 refl refl e (begins names first) refl)
  same_beside_rows first (FirmsByCounts content holdings surplus) h k short short' e =
      absurd (no_rows (answer_form names first) _ 102 refl refl e (begins names first) refl)
  same_beside_rows first second h k short short' e = told_apart first second h k short short' e

  same_beside_wide_rows : (first second : Said) → IsNamedAnswer names first → IsNamedAnswer names second
      → HasShortNumbers first → HasShortNumbers second
      → form_text (answer_form names first) ≡ text_of (answer_table names second AsWideRows) (answer_form names second)
      → IsSameObject names first second
  unfolding fields_text
  same_beside_wide_rows first (Solved on prices surplus ends) h k short short' e =
      absurd (no_rows (answer_form names first) _ 116 refl refl e (begins names first) refl)
  same_beside_wide_rows first (SolvedByCounts counts prices surplus ends) h k short short' e =
      absurd (no_rows (answer_form names first) _ 116 refl refl e (begins names first) refl)
  same_beside_wide_rows first second h k short short' e = told_apart first second h k short short' e

  abbrev low_of : Range → Option ℤ
  low_of range = range.low

  abbrev high_of : Range → Option ℤ
  high_of range = range.high

  abbrev unit_low_of : UnitRange → Option ℤ
  unit_low_of range = range.low

  abbrev unit_high_of : UnitRange → Option ℤ
  unit_high_of range = range.high

  bounds_short : (ranges : List Range) → All HasShortBounds ranges
      → All (λ range. IfSome range.low (FitsSigned w64) × IfSome range.high (FitsSigned w64)) ranges
  bounds_short ranges short = λ t d below. let s = short t d below in (s.low, s.high)

  unit_bounds_short : (ranges : List UnitRange) → All HasShortUnitBounds ranges
      → All (λ range. IfSome range.low (FitsSigned w64) × IfSome range.high (FitsSigned w64)) ranges
  unit_bounds_short ranges short = λ t d below. let s = short t d below in (s.low, s.high)

  -- supports, solutions, ranges and what firms have, by trades and by counts
  same_in_rows : (first second : Said) → IsNamedAnswer names first → IsNamedAnswer names second → HasShortNumbers first
      → HasShortNumbers second
      → text_of (answer_table names first AsRows) (answer_form names first)
      ≡ text_of (answer_table names second AsRows) (answer_form names second) → IsSameInRows names first second
  same_in_rows (Supported on prices ends) (Supported on' prices' ends') h k short short' e =
      let same = same_deals names firms trades (on_flags on) (on_flags on') prices ends prices' ends' h.1 k.1 h.2 k.2
      short short' e in
      (same_on (length names.trades) on on' h.0 k.0 same.0, same.1, same.2)
  same_in_rows (SupportedByCounts counts prices ends) (SupportedByCounts counts' prices' ends') h k short short' e =
      let same = same_deals names firms trades (on_units counts) (on_units counts') prices ends prices' ends' h.1 k.1 h.2
      k.2 short.1 short'.1 e in
      (same_units (length names.trades) counts counts' h.0 k.0 short.0 short'.0 same.0, same.1, same.2)
  same_in_rows (Supported on prices ends) (SupportedByCounts counts prices' ends') h k short short' e =
      let same = same_deals names firms trades (on_flags on) (on_units counts) prices ends prices' ends' h.1 k.1 h.2 k.2
      short short'.1 e in
      (same_units_on (length names.trades) on counts h.0 k.0 short'.0 same.0, same.1, same.2)
  same_in_rows (SupportedByCounts counts prices ends) (Supported on prices' ends') h k short short' e =
      let same = same_deals names firms trades (on_units counts) (on_flags on) prices ends prices' ends' h.1 k.1 h.2 k.2
      short.1 short' e in
      (same_units_on (length names.trades) on counts k.0 h.0 short.0 (λ t below. sym (same.0 t below)), same.1, same.2)
  same_in_rows (Solved on prices surplus ends) (Solved on' prices' surplus' ends') h k short short' e =
      let same = same_prices_alone names firms trades (on_flags on) (on_flags on') prices prices' h.1 k.1 short.0
      short'.0 e in
      (same_on (length names.trades) on on' h.0 k.0 same.0, same.1)
  same_in_rows (SolvedByCounts counts prices surplus ends) (SolvedByCounts counts' prices' surplus' ends') h k short
      short' e =
      let same = same_prices_alone names firms trades (on_units counts) (on_units counts') prices prices' h.1 k.1 short.1
      short'.1 e in
      (same_units (length names.trades) counts counts' h.0 k.0 short.0 short'.0 same.0, same.1)
  same_in_rows (Solved on prices surplus ends) (SolvedByCounts counts prices' surplus' ends') h k short short' e =
      let same = same_prices_alone names firms trades (on_flags on) (on_units counts) prices prices' h.1 k.1 short.0
      short'.1 e in
      (same_units_on (length names.trades) on counts h.0 k.0 short'.0 same.0, same.1)
  same_in_rows (SolvedByCounts counts prices surplus ends) (Solved on prices' surplus' ends') h k short short' e =
      let same = same_prices_alone names firms trades (on_units counts) (on_flags on) prices prices' h.1 k.1 short.1
      short'.0 e in
      (same_units_on (length names.trades) on counts k.0 h.0 short.0 (λ t below. sym (same.0 t below)), same.1)
  same_in_rows (Ranges on ranges ends) (Ranges on' ranges' ends') h k short short' e =
      let same = same_bounds_rows names firms trades low_of high_of low_of high_of (on_flags on)
      (on_flags on') ranges ends ranges' ends' h.1 k.1 h.3 k.3 (bounds_short ranges short) (bounds_short ranges' short') e
      in
      (same_on (length names.trades) on on' h.0 k.0 same.0, same.1, same.2)
  same_in_rows (RangesByCounts counts ranges ends) (RangesByCounts counts' ranges' ends') h k short short' e =
      let same = same_bounds_rows names firms trades unit_low_of unit_high_of unit_low_of unit_high_of
      (on_units counts) (on_units counts') ranges ends ranges' ends' h.1 k.1 h.3 k.3 (unit_bounds_short ranges short.1)
      (unit_bounds_short ranges' short'.1) e in
      (same_units (length names.trades) counts counts' h.0 k.0 short.0 short'.0 same.0, same.1, same.2)
  same_in_rows (Ranges on ranges ends) (RangesByCounts counts ranges' ends') h k short short' e =
      let same = same_bounds_rows names firms trades low_of high_of unit_low_of unit_high_of (on_flags on)
      (on_units counts) ranges ends ranges' ends' h.1 k.1 h.3 k.3 (bounds_short ranges short)
      (unit_bounds_short ranges' short'.1) e in
      (same_units_on (length names.trades) on counts h.0 k.0 short'.0 same.0, same.1, same.2)
  same_in_rows (RangesByCounts counts ranges ends) (Ranges on ranges' ends') h k short short' e =
      let same = same_bounds_rows names firms trades unit_low_of unit_high_of low_of high_of
      (on_units counts) (on_flags on) ranges ends ranges' ends' h.1 k.1 h.3 k.3 (unit_bounds_short ranges short.1)
      (bounds_short ranges' short') e in (
        same_units_on (length names.trades) on counts k.0 h.0 short.0 (λ t below. sym (same.0 t below)),
        sym same.1,
        same.2,
      )
  same_in_rows (FirmsIs content holdings surplus) (FirmsIs content' holdings' surplus') h k short short' e =
      same_firm_rows names firms trades holdings holdings' (h.0 ∙ sym k.0) h.1 k.1 short.1 short'.1 e
  same_in_rows (FirmsByCounts content holdings surplus) (FirmsByCounts content' holdings' surplus') h k short short' e =
      same_unit_firm_rows names firms trades holdings holdings' (h.0 ∙ sym k.0) h.1 k.1 short.1 short'.1 e
  same_in_rows (FirmsIs content holdings surplus) (FirmsByCounts content' holdings' surplus') h k short short' e =
      firm_rows_alike names firms trades holdings holdings' (h.0 ∙ sym k.0) h.1 k.1 short.1 short'.1 e
  same_in_rows (FirmsByCounts content holdings surplus) (FirmsIs content' holdings' surplus') h k short short' e =
      firm_rows_alike names firms trades holdings' holdings (k.0 ∙ sym h.0) k.1 h.1 short'.1 short.1 (sym e)
  same_in_rows (Supported on prices ends) second h k short short' e =
      absurd (rows_differ (Supported on prices ends) second refl e)
  same_in_rows (SupportedByCounts counts prices ends) second h k short short' e =
      absurd (rows_differ (SupportedByCounts counts prices ends) second refl e)
  same_in_rows (Solved on prices surplus ends) second h k short short' e =
      absurd (rows_differ (Solved on prices surplus ends) second refl e)
  same_in_rows (SolvedByCounts counts prices surplus ends) second h k short short' e =
      absurd (rows_differ (SolvedByCounts counts prices surplus ends) second refl e)
  same_in_rows (Ranges on ranges ends) second h k short short' e =
      absurd (rows_differ (Ranges on ranges ends) second refl e)
  same_in_rows (RangesByCounts counts ranges ends) second h k short short' e =
      absurd (rows_differ (RangesByCounts counts ranges ends) second refl e)
  same_in_rows (FirmsIs content holdings surplus) second h k short short' e =
      absurd (rows_differ (FirmsIs content holdings surplus) second refl e)
  same_in_rows (FirmsByCounts content holdings surplus) second h k short short' e =
      absurd (rows_differ (FirmsByCounts content holdings surplus) second refl e)
  same_in_rows first second h k short short' e = same_beside_rows first second h k short short' e

  same_in_wide_rows : (first second : Said) → IsNamedAnswer names first → IsNamedAnswer names second
      → HasShortNumbers first → HasShortNumbers second
      → text_of (answer_table names first AsWideRows) (answer_form names first)
      ≡ text_of (answer_table names second AsWideRows) (answer_form names second) → IsSameInWideRows names first second
  same_in_wide_rows (Solved on prices surplus ends) (Solved on' prices' surplus' ends') h k short short' e =
      let same = same_deals names firms trades (on_flags on) (on_flags on') prices ends prices' ends' h.1 k.1 h.2 k.2
      short.0 short'.0 e in
      (same_on (length names.trades) on on' h.0 k.0 same.0, same.1, same.2)
  same_in_wide_rows (SolvedByCounts counts prices surplus ends) (SolvedByCounts counts' prices' surplus' ends') h k short
      short' e =
      let same = same_deals names firms trades (on_units counts) (on_units counts') prices ends prices' ends' h.1 k.1 h.2
      k.2 short.1 short'.1 e in
      (same_units (length names.trades) counts counts' h.0 k.0 short.0 short'.0 same.0, same.1, same.2)
  same_in_wide_rows (Solved on prices surplus ends) (SolvedByCounts counts prices' surplus' ends') h k short short' e =
      let same = same_deals names firms trades (on_flags on) (on_units counts) prices ends prices' ends' h.1 k.1 h.2 k.2
      short.0 short'.1 e in
      (same_units_on (length names.trades) on counts h.0 k.0 short'.0 same.0, same.1, same.2)
  same_in_wide_rows (SolvedByCounts counts prices surplus ends) (Solved on prices' surplus' ends') h k short short' e =
      let same = same_deals names firms trades (on_units counts) (on_flags on) prices ends prices' ends' h.1 k.1 h.2 k.2
      short.1 short'.0 e in
      (same_units_on (length names.trades) on counts k.0 h.0 short.0 (λ t below. sym (same.0 t below)), same.1, same.2)
  same_in_wide_rows (SolvedByCounts counts prices surplus ends) second h k short short' e =
      absurd (clash 116 (start second) refl (ap (byte 0) e ∙ begins names second))
  same_in_wide_rows (Solved on prices surplus ends) second h k short short' e =
      absurd (clash 116 (start second) refl (ap (byte 0) e ∙ begins names second))
  same_in_wide_rows first second h k short short' e = same_beside_wide_rows first second h k short short' e

pub answers_told_apart : AnswersAreToldApart
unfolding answer_line
answers_told_apart AsObject names first second firms trades h k short short' same =
    told_apart names firms trades first second h k short short' (object_line names first ∙ same
    ∙ sym (object_line names second))
answers_told_apart AsRows names first second firms trades h k short short' same =
    same_in_rows names firms trades first second h k short short' same
answers_told_apart AsWideRows names first second firms trades h k short short' same =
    same_in_wide_rows names firms trades first second h k short short' same
