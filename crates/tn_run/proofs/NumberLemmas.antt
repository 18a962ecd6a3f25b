-- A numeral that isn't read as a number of 32 bits is beyond them.
use Rattle.std.proofs.Common.{◌≡◌, ℕ, ◌<◌, ◌≤◌, ◌^◌, Bool, true, false, not, ◌==◌, ◌&&◌, ◌||◌, List, [], ◌∷◌, length, nat_le, if◌then◌else◌, Some, None, Result, get_or, refl, sym, subst, arith, true≢false, inl, inr}
use Rattle.std.specs.Prelude.{Err}
use Rattle.std.specs.Char.{is_ascii_digit}
use Rattle.std.specs.List.{list_all}
use Rattle.std.specs.Result.{OkIff}
use Rattle.std.specs.Str.{all_ascii_digits}
use Rattle.std.specs.Str.Parse.{ParsesUnsigned, digits_value}
use Rattle.std.proofs.lemmas.Bool.{and_parts, cases_lt, lt-leb}
use Rattle.std.proofs.lemmas.Str.Parse.{numerals_by_value, parse_digits, tells_all_ascii_digits}
use Rattle.tn_run.specs.Words.{is_numeral, number_within}

all_digits : (word : List ℕ) → list_all is_ascii_digit word ≡ true → all_ascii_digits word ≡ true
all_digits [] e = refl
all_digits (c ∷ cs) e = let parts = and_parts (is_ascii_digit c) (list_all is_ascii_digit cs) e in
    λ i. parts.0 i && all_digits cs parts.1 i

some_digit : (word : List ℕ) → not (length word == 0) ≡ true → 0 < length word
some_digit [] e = absurd (true≢false (sym e))
some_digit (c ∷ cs) e = omega arith

beyond : {E : Type 0} (word : List ℕ) (r : Result ℕ E) (e : E) → ParsesUnsigned 32 10 word r → r ≡ Err e
    → is_numeral word ≡ true → 2 ^ 32 ≤ digits_value 10 word
beyond {E} word r e parsed refused numeral =
    let both = and_parts (not (length word == 0) && list_all is_ascii_digit word) (length word == 1
    || not (get_or word 0 0 == 48)) numeral in
    let digits = and_parts (not (length word == 0)) (list_all is_ascii_digit word) both.0 in
    let iff = parse_digits (numerals_by_value (λ ds. all_ascii_digits ds ≡ true) tells_all_ascii_digits) 32 word r
    parsed (all_digits word digits.1) in
    let never = subst (λ (o : Result ℕ E). OkIff o ((0 < length word)
    × (digits_value 10 word < 2 ^ 32)) (digits_value 10 word)) refused iff in
    by_size (some_digit word digits.0) never
  where
    by_size : 0 < length word → ((0 < length word) × (digits_value 10 word < 2 ^ 32) → ⊥)
        → 2 ^ 32 ≤ digits_value 10 word
    by_size some never = elim (cases_lt (digits_value 10 word) (2 ^ 32)) [
      | inl below ↦
          absurd (never (some, below))
      | inr above ↦ above
    ]

pub none_within : {E : Type 0} (least most : ℕ) (word : List ℕ) (r : Result ℕ E) (e : E) → ParsesUnsigned 32 10 word r
    → r ≡ Err e → is_numeral word ≡ true → most < 2 ^ 32
    → None ≡ number_within least most word
none_within least most word r e parsed refused numeral small =
    let above = beyond word r e parsed refused numeral in
    let not_most : nat_le (digits_value 10 word) most ≡ false =
    lt-leb (digits_value 10 word) most (omega (arith, above, small)) in
    rw (numeral, not_most) (by (nat_le least (digits_value 10 word)))
  where
    by : (b : Bool) → None ≡ (if true && b && false then Some (digits_value 10 word) else None)
    by true = refl
    by false = refl
