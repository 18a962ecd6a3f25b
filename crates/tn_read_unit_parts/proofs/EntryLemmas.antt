-- What the numbers are that entries of units and of prices give, and where their reading stops.
use Rattle.std.proofs.Common.{◌≡◌, ℕ, ◌^◌, ◌<◌, ◌≤◌, true, List, [], ◌∷◌, ◌++◌, length, get_or, Some, zero, suc, refl, sym, subst, ◌∙◌, arith}
use Rattle.std.specs.Prelude.{ℤ, pos, int_le, unsigned_abs, nat_le, ◌&&◌, replicate, slice_set}
use Rattle.std.proofs.lemmas.Bool.{and_parts}
use Rattle.std.proofs.lemmas.Int.{ints}
use Rattle.std.proofs.lemmas.List.{length-replicate, length-set}
use Rattle.std.proofs.lemmas.Nat.{pow_pos}
use Rattle.serde_json.specs.Data.{Data, Items}
use Rattle.tn_base.specs.Arcs.{IsAtMost}
use Rattle.tn_base.specs.Sets.{size, toggle}
use Rattle.tn_base.proofs.SetLemmas.{toggle_within}
use Rattle.tn_counts.specs.Counts.{trade_at}
use Rattle.tn_counts.specs.Widths.{most_unit_price, most_unit_trades}
use Rattle.tn_said.specs.declared.fault.FaultKind.TheVariants.{AmountRange}
use Rattle.tn_said.specs.declared.place.PlaceStep.{PlaceStep}
use Rattle.tn_said.specs.declared.place.PlaceStep.TheVariants.{Index}
use Rattle.tn_read_parts.specs.Lists.{first_without, unless_missing}
use Rattle.tn_read_parts.proofs.ListStops.{first_without_within, missing_stops}
use Rattle.tn_read_references.specs.Entries.{Numbered}
use Rattle.tn_read_references.specs.References.{new_trade}
use Rattle.tn_read_references.proofs.ReferenceLeads.{new_trade_leads}
use Rattle.tn_read_references.proofs.ReferenceStops.{few_members, new_trade_stops}
use Rattle.tn_read_references.proofs.ToldLemmas.{IsTold, told_from_plain}
use Rattle.tn_read_shapes.specs.Reading.{holds}
use Rattle.tn_read_shapes.specs.Shapes.{two_at, whole_at}
use Rattle.tn_read_shapes.proofs.LeadLemmas.{Leads, le_from_test, leads_after, leads_as, leads_bind, leads_each, leads_holds, leads_ok}
use Rattle.tn_read_shapes.proofs.ShapeLeads.{number_leads}
use Rattle.tn_read_shapes.proofs.ShapeStops.{number_stops, two_stops, whole_stops}
use Rattle.tn_read_shapes.proofs.StopLemmas.{IsPlain, IsPlainPlace, Stops, StopsPlainly, plain_holds, plain_within, stops_bind, stops_each, stops_ok}
use Rattle.tn_read_unit_parts.specs.Entries.{number_of, numbered, numbers_place, one_number, prices_of, units_within}
use Rattle.tn_read_unit_parts.specs.declared.entries.EntryNumbers.{EntryNumbers}
use Rattle.tn_read_unit_parts.specs.declared.entries.EntryNumbers.TheVariants.{Units, Prices}
use Rattle.tn_read_units.specs.Trades.{UnitTrades}

-- the number of an entry of trade t is one of its units, or a price
abbrev pub IsNumberOf : UnitTrades → EntryNumbers → ℕ → ℤ → Type 0
IsNumberOf head Units t z = unsigned_abs z ≤ (trade_at head.trades t).units
IsNumberOf head Prices t z = IsAtMost z most_unit_price

-- a number for each trade
pub record AreNumbersOf (head : UnitTrades) (kind : EntryNumbers) (numbers : List ℤ) : Type 0 where
  pub counted : length numbers ≡ length head.trades
  pub each : (t : ℕ) → t < length head.trades → IsNumberOf head kind t (get_or numbers t (pos 0))

pub units_lead : (units : ℕ) (place : List PlaceStep) (value : Data)
    → Leads (λ z. unsigned_abs z ≤ units) (units_within units place value)
unfolding units_within
units_lead units place value =
    leads_after (λ z. unsigned_abs z ≤ units) (whole_at place (Some value)) _ (λ z.
    leads_bind (λ _. (int_le (pos 0) z && nat_le (unsigned_abs z) units) ≡ true) (λ z. unsigned_abs z ≤ units)
    (holds AmountRange place (int_le (pos 0) z && nat_le (unsigned_abs z) units)) _
    (leads_holds AmountRange place (int_le (pos 0) z && nat_le (unsigned_abs z) units)) (λ _ within.
    leads_ok (λ z. unsigned_abs z ≤ units) z
    (le_from_test (unsigned_abs z) units (and_parts (int_le (pos 0) z) (nat_le (unsigned_abs z) units) within).1)))

number_lead : (head : UnitTrades) (kind : EntryNumbers) (t : ℕ) (place : List PlaceStep) (value : Data)
    → Leads (IsNumberOf head kind t) (number_of head kind t place value)
number_lead head Units t place value = units_lead (trade_at head.trades t).units place value
number_lead head Prices t place value = number_leads most_unit_price place (Some value)

pub units_stop : (units : ℕ) (place : List PlaceStep) → IsPlainPlace place → (value : Data)
    → StopsPlainly (units_within units place value)
unfolding units_within
units_stop units place plain value =
    stops_bind IsPlain (whole_at place (Some value)) _ (whole_stops place plain (Some value)) (λ z.
    stops_bind IsPlain (holds AmountRange place (int_le (pos 0) z && nat_le (unsigned_abs z) units)) _
    (plain_holds AmountRange place (int_le (pos 0) z && nat_le (unsigned_abs z) units) refl plain) (λ within.
    stops_ok IsPlain z))

number_stop : (head : UnitTrades) (kind : EntryNumbers) (t : ℕ) (place : List PlaceStep) → IsPlainPlace place
    → (value : Data) → StopsPlainly (number_of head kind t place value)
number_stop head Units t place plain value = units_stop (trade_at head.trades t).units place plain value
number_stop head Prices t place plain value = number_stops place plain most_unit_price (Some value)

pub plain_at : (kind : EntryNumbers) → IsPlainPlace (numbers_place kind)
plain_at Units = (tt, (tt, tt))
plain_at Prices = (tt, (tt, tt))

-- a number that is set is there, and others stay
set_keeps : (P : ℕ → ℤ → Type 0) (numbers : List ℤ) (k : ℕ) (z : ℤ) → P k z
    → ((t : ℕ) → t < length numbers → P t (get_or numbers t (pos 0)))
    → (t : ℕ) → t < length numbers → P t (get_or (slice_set numbers k z) t (pos 0))
set_keeps P [] k z here there t below = absurd (omega (arith, below))
set_keeps P (x ∷ xs) zero z here there zero below = here
set_keeps P (x ∷ xs) zero z here there (suc t) below = there (suc t) below
set_keeps P (x ∷ xs) (suc k) z here there zero below = there zero below
set_keeps P (x ∷ xs) (suc k) z here there (suc t) below =
    set_keeps (λ n. P (suc n)) xs k z here (λ n less. there (suc n) (omega (arith, less))) t (omega (arith, below))

zeros : (kind : EntryNumbers) (head : UnitTrades) (t n : ℕ) → IsNumberOf head kind t
    (get_or (replicate n (pos 0)) t (pos 0))
zeros kind head t n = subst (IsNumberOf head kind t) (sym (none_there t n)) (none kind)
  where
    none_there : (t n : ℕ) → get_or (replicate n (pos 0)) t (pos 0) ≡ pos 0
    none_there t zero = refl
    none_there zero (suc n) = refl
    none_there (suc t) (suc n) = none_there t n

    none : (kind : EntryNumbers) → IsNumberOf head kind t (pos 0)
    none Units = omega arith
    none Prices = search (arith, ints)

module _ (head : UnitTrades) (named_as : length head.names.trades ≡ length head.trades)
    (few : length head.trades ≤ most_unit_trades) (kind : EntryNumbers) where
  -- the numbers so far, and the trades that have one
  record AreSoFar (given : Numbered) : Type 0 where
    named : given.named < 2 ^ length head.names.trades
    are : AreNumbersOf head kind given.numbers

  begin : AreSoFar (record { named = 0; numbers = replicate (length head.trades) (pos 0) })
  begin = record {
    named = pow_pos (length head.names.trades);
    are = record {
      counted = length-replicate (length head.trades) (pos 0);
      each = λ t below. zeros kind head t (length head.trades);
    };
  }

  one_leads : (given : Numbered) (entry : Data) → AreSoFar given → Leads AreSoFar (one_number head kind given entry)
  unfolding one_number
  one_leads given entry so_far =
      let place = numbers_place kind in
      let at = place ++ Index (size given.named) ∷ [] in
      let first = place ++ Index (size given.named) ∷ Index 0 ∷ [] in
      let second = place ++ Index (size given.named) ∷ Index 1 ∷ [] in
      leads_after AreSoFar (two_at at entry) _ (λ two.
      leads_bind (λ t. t < length head.names.trades) AreSoFar (new_trade head.names.trades first given.named two.0) _
      (new_trade_leads head.names.trades first given.named two.0) (λ t known.
      leads_bind (IsNumberOf head kind t) AreSoFar (number_of head kind t second two.1) _
      (number_lead head kind t second two.1) (λ z is.
      leads_ok AreSoFar (record { named = toggle given.named t; numbers = slice_set given.numbers t z }) (record {
        named = toggle_within given.named t (length head.names.trades) so_far.named known;
        are = record {
          counted = length-set given.numbers t z ∙ so_far.are.counted;
          each = λ n below. set_keeps (IsNumberOf head kind) given.numbers t z is
              (λ n less. so_far.are.each n (subst (λ (m : ℕ). n < m) so_far.are.counted less)) n
              (subst (λ (m : ℕ). n < m) (sym so_far.are.counted) below);
        };
      }))))

  one_stops : (given : Numbered) (entry : Data) → AreSoFar given → StopsPlainly (one_number head kind given entry)
  unfolding one_number
  one_stops given entry so_far =
      let place = numbers_place kind in
      let plain = plain_at kind in
      let at = place ++ Index (size given.named) ∷ [] in
      let first = place ++ Index (size given.named) ∷ Index 0 ∷ [] in
      let second = place ++ Index (size given.named) ∷ Index 1 ∷ [] in
      let few_before : size given.named ≤ 16384 =
      few_members (length head.names.trades) given.named so_far.named (omega (arith, few, named_as)) in
      stops_bind IsPlain (two_at at entry) _
      (two_stops at (plain_within place (Index (size given.named) ∷ []) plain (few_before, tt)) entry) (λ two.
      stops_bind IsPlain (new_trade head.names.trades first given.named two.0) _
      (new_trade_stops first (plain_within place (Index (size given.named) ∷ Index 0 ∷ []) plain
      (few_before, (omega arith, tt))) head.names.trades given.named two.0) (λ t.
      stops_bind IsPlain (number_of head kind t second two.1) _
      (number_stop head kind t second (plain_within place (Index (size given.named) ∷ Index 1 ∷ []) plain
      (few_before, (omega arith, tt))) two.1) (λ z.
      stops_ok IsPlain (record { named = toggle given.named t; numbers = slice_set given.numbers t z }))))

  pub numbers_lead : (entries : Items) → Leads (λ given. AreNumbersOf head kind given.numbers) (numbered head kind entries)
  unfolding numbered
  numbers_lead entries =
      leads_as AreSoFar (λ given. AreNumbersOf head kind given.numbers) _ (λ given so_far. so_far.are)
      (leads_each AreSoFar (one_number head kind) one_leads _ entries begin)

  pub numbers_stop : (entries : Items) → StopsPlainly (numbered head kind entries)
  unfolding numbered
  numbers_stop entries = stops_each IsPlain AreSoFar (one_number head kind) one_leads one_stops _ entries begin

module _ (head : UnitTrades) (named_as : length head.names.trades ≡ length head.trades)
    (few : length head.trades ≤ most_unit_trades) where
  pub prices_lead : (entries : Items) → Leads (AreNumbersOf head Prices) (prices_of head entries)
  unfolding prices_of
  prices_lead entries =
      leads_bind (λ given. AreNumbersOf head Prices given.numbers) (AreNumbersOf head Prices)
      (numbered head Prices entries) _ (numbers_lead head named_as few Prices entries) (λ priced are.
      leads_after (AreNumbersOf head Prices) (unless_missing (numbers_place Prices)
      (first_without priced.named 0 (length head.trades))) _ (λ complete.
      leads_ok (AreNumbersOf head Prices) priced.numbers are))

  pub prices_stop : (entries : Items) → Stops (IsTold head.names.trades) (prices_of head entries)
  unfolding prices_of
  prices_stop entries =
      let trades = head.names.trades in
      stops_bind (IsTold trades) (numbered head Prices entries) _
      (told_from_plain trades _ (numbers_stop head named_as few Prices entries)) (λ priced.
      stops_bind (IsTold trades) (unless_missing (numbers_place Prices)
      (first_without priced.named 0 (length head.trades))) _
      (missing_stops trades (omega (arith, few, named_as)) (numbers_place Prices) (plain_at Prices)
      (first_without priced.named 0 (length head.trades))
      (λ t e. let below = first_without_within priced.named 0 (length head.trades) t e in omega (arith, below, named_as)))
      (λ complete.
      stops_ok (IsTold trades) priced.numbers))
