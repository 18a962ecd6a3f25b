-- Names and numbers as an answer writes them are read back.
use Rattle.std.proofs.Common.{◌≡◌, ℕ, ◌<◌, ◌^◌, ℤ, pos, negsuc, Bool, true, false, List, [], length, slice_get, get_or, Some, None, Ok, inl, inr, refl, sym, ap, ◌∙◌, arith, true≢false}
use Rattle.std.specs.Prelude.{nat_le, nat_lt, cond, unsigned_abs, unwrap_or, ◌≤ℤ◌, int_le}
use Rattle.std.specs.List.{position_or_len}
use Rattle.std.proofs.lemmas.Bool.{cases_lt}
use Rattle.std.proofs.lemmas.Int.{ints}
use Rattle.std.proofs.lemmas.List.Sums.{fails_before_first}
use Rattle.std.proofs.lemmas.Option.{slice_get-get_or, slice_get_within, get_or_from_slice_get}
use Rattle.std.specs.Str.{bytes_eq}
use Rattle.std.proofs.lemmas.Slice.Eq.{bytes_eq-Decides}
use Rattle.serde_json.specs.Find.{as_i64, of_integer}
use Rattle.tn_base.specs.Arcs.{IsAtMost}
use Rattle.tn_said.specs.declared.place.PlaceStep.{PlaceStep}
use Rattle.tn_names.specs.Names.{IsNameList, number_of}
use Rattle.tn_names.proofs.NameLemmas.{name_at_number}
use Rattle.tn_read_shapes.specs.Shapes.{number_in}
use Rattle.tn_read_references.specs.References.{firm_at, trade_at}
use Rattle.tn_read_parts.specs.Signed.{over_at}
use Rattle.tn_answer.specs.Values.{integer_data, name_data}

-- ---- names

-- a name that is there is found
position_there : (name : List ℕ) (names : List (List ℕ)) (k : ℕ) → slice_get names k ≡ Some name
    → position_or_len (bytes_eq name) names < length names
position_there name names k at = elim (cases_lt (position_or_len (bytes_eq name) names) (length names)) [
  | inl below ↦ below
  | inr past ↦
      let inside = slice_get_within names k name at in
      let fails = fails_before_first (bytes_eq name) names k [] (omega (arith, inside, past)) in
      let is = get_or_from_slice_get names k name [] at in
      absurd (true≢false (sym ((bytes_eq-Decides name (get_or names k [])).1 (sym is)) ∙ fails))
]

found_number : (names : List (List ℕ)) (name : List ℕ) (k : ℕ) → slice_get names k ≡ Some name
    → number_of names name ≡ Some (position_or_len (bytes_eq name) names)
found_number names name k at = by_test (nat_lt (position_or_len (bytes_eq name) names) (length names)) refl
  where
    by_test : (b : Bool) → nat_lt (position_or_len (bytes_eq name) names) (length names) ≡ b
        → cond b (Some (position_or_len (bytes_eq name) names)) None ≡ Some (position_or_len (bytes_eq name) names)
    by_test true e = refl
    by_test false e = let below = position_there name names k at in absurd (grind (arith, e, below))

pub number_of_name : (names : List (List ℕ)) → IsNameList names → (k : ℕ) (name : List ℕ)
    → slice_get names k ≡ Some name → number_of names name ≡ Some k
number_of_name names are k name at =
    let found = found_number names name k at in
    found ∙ ap Some (are.once (position_or_len (bytes_eq name) names) k name
    (name_at_number names name (position_or_len (bytes_eq name) names) found) at)

name_is : (names : List (List ℕ)) (k : ℕ) → k < length names
    → slice_get names k ≡ Some (unwrap_or (slice_get names k) [])
name_is names k below = let at = slice_get-get_or names k [] below in
    at ∙ ap (λ found. Some (unwrap_or found [])) (sym at)

pub name_number : (names : List (List ℕ)) → IsNameList names → (k : ℕ) → k < length names
    → number_of names (unwrap_or (slice_get names k) []) ≡ Some k
name_number names are k below = number_of_name names are k (unwrap_or (slice_get names k) []) (name_is names k below)

pub trade_back : (names : List (List ℕ)) → IsNameList names → (place : List PlaceStep) (k : ℕ) → k < length names
    → trade_at names place (name_data names k) ≡ Ok k
unfolding trade_at
trade_back names are place k below = rw (name_number names are k below)

pub firm_back : (names : List (List ℕ)) → IsNameList names → (place : List PlaceStep) (k : ℕ) → k < length names
    → firm_at names place (Some (name_data names k)) ≡ Ok k
unfolding firm_at
firm_back names are place k below = rw (name_number names are k below)

-- ---- numbers

is_small : (z : ℤ) (limit : ℕ) → IsAtMost z limit → nat_le (unsigned_abs z) limit ≡ true
is_small z limit small = let low = small.low in let high = small.high in grind (arith, ints, low, high)

whole_back : (z : ℤ) (limit : ℕ) → limit < 2 ^ 63 → IsAtMost z limit → as_i64 (of_integer z) ≡ Some z
whole_back (pos n) limit short small = let high = small.high in
    let below : nat_lt n (2 ^ 63) ≡ true = grind (arith, ints, high, short) in
    ap (λ b. cond b (Some (pos n)) None) below
whole_back (negsuc n) limit short small = refl

pub number_back : (limit : ℕ) (place : List PlaceStep) (z : ℤ) → limit < 2 ^ 63 → IsAtMost z limit
    → number_in limit place (Some (integer_data z)) ≡ Ok z
unfolding number_in
number_back limit place z short small = rw (whole_back z limit short small, is_small z limit small)

pub over_back : (limit : ℕ) (place : List PlaceStep) (z : ℤ) → limit < 2 ^ 63 → pos 1 ≤ℤ z → z ≤ℤ pos limit
    → over_at limit place (Some (integer_data z)) ≡ Ok z
unfolding over_at
over_back limit place z short least most =
    let small : IsAtMost z limit = record { low = omega (arith, ints, least); high = most } in
    let first : int_le (pos 1) z ≡ true = grind (arith, ints, least) in
    let second : int_le z (pos limit) ≡ true = grind (arith, ints, most) in
    rw (whole_back z limit short small, first, second)
