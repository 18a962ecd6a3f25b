-- References and entries stop reading only with plain faults.
use Rattle.std.proofs.Common.{ℕ, ◌^◌, ◌<◌, ◌≤◌, List, [], ◌∷◌, ◌++◌, length, slice_get, Option, Some, None, refl, arith}
use Rattle.std.specs.Prelude.{ℤ, not, option_and_then, slice_set}
use Rattle.std.proofs.lemmas.Nat.{pow_pos}
use Rattle.serde_json.specs.Data.{Data, Items}
use Rattle.tn_base.specs.Sets.{has, size, toggle}
use Rattle.tn_base.proofs.SetLemmas.{toggle_within}
use Rattle.tn_base.proofs.SizeLemmas.{size_le}
use Rattle.tn_base.specs.declared.side.Side.{Side}
use Rattle.tn_said.specs.declared.fault.FaultKind.TheVariants.{UnknownFirm, UnknownTrade, NotOwnTrade, SameTrade}
use Rattle.tn_model.specs.Limits.{most_own_trades}
use Rattle.tn_said.specs.declared.place.PlaceStep.{PlaceStep}
use Rattle.tn_said.specs.declared.place.PlaceStep.TheVariants.{Index}
use Rattle.tn_names.specs.Names.{number_of}
use Rattle.tn_read_shapes.specs.Reading.{each, holds}
use Rattle.tn_read_shapes.specs.Shapes.{text_at, list_at, two_at, number_at}
use Rattle.tn_read_references.specs.Ordered.{Listed, sides_of, AreTrades}
use Rattle.tn_read_references.specs.References.{position_on, firm_at, trade_at, new_trade, own_position, new_own, own_reference, bundle_at}
use Rattle.tn_read_references.specs.Entries.{Numbered, Refers, entry_of, one_entry}
use Rattle.tn_read_shapes.proofs.LeadLemmas.{Leads, leads_ok, leads_bind, leads_after}
use Rattle.tn_read_references.proofs.ReferenceLeads.{reference_leads}
use Rattle.tn_read_shapes.proofs.StopLemmas.{StopsPlainly, IsPlain, IsPlainPlace, stops_ok, stops_bind, stops_each, plain_wanted, plain_holds, plain_within}
use Rattle.tn_read_shapes.proofs.ShapeStops.{text_stops, list_stops, two_stops, number_stops}

module _ (place : List PlaceStep) (plain : IsPlainPlace place) where
  pub firm_at_stops : (firms : List (List ℕ)) (value : Option Data) → StopsPlainly (firm_at firms place value)
  unfolding firm_at
  firm_at_stops firms value =
      stops_bind IsPlain (text_at place value) _ (text_stops place plain value)
      (λ name. plain_wanted UnknownFirm place (number_of firms name) refl plain)

  pub trade_at_stops : (trades : List (List ℕ)) (value : Data) → StopsPlainly (trade_at trades place value)
  unfolding trade_at
  trade_at_stops trades value =
      stops_bind IsPlain (text_at place (Some value)) _ (text_stops place plain (Some value))
      (λ name. plain_wanted UnknownTrade place (number_of trades name) refl plain)

  pub new_trade_stops : (trades : List (List ℕ)) (named : ℕ) (value : Data)
      → StopsPlainly (new_trade trades place named value)
  unfolding new_trade
  new_trade_stops trades named value =
      stops_bind IsPlain (trade_at trades place value) _ (trade_at_stops trades value) (λ t.
      stops_bind IsPlain (holds SameTrade place (not (has named t))) _
      (plain_holds SameTrade place (not (has named t)) refl plain) (λ new. stops_ok IsPlain t))

  pub own_position_stops : (listed : Listed) (f : ℕ) (side : Option Side) (value : Data)
      → StopsPlainly (own_position listed f side place value)
  unfolding own_position
  own_position_stops listed f side value =
      stops_bind IsPlain (trade_at listed.names.trades place value) _ (trade_at_stops listed.names.trades value) (λ t.
      plain_wanted NotOwnTrade place (option_and_then (position_on side f) (slice_get listed.ends t)) refl plain)

  pub new_own_stops : (listed : Listed) (f : ℕ) (side : Option Side) (bundle : ℕ) (value : Data)
      → StopsPlainly (new_own listed f side place bundle value)
  unfolding new_own
  new_own_stops listed f side bundle value =
      stops_bind IsPlain (own_position listed f side place value) _ (own_position_stops listed f side value) (λ k.
      stops_bind IsPlain (holds SameTrade place (not (has bundle k))) _
      (plain_holds SameTrade place (not (has bundle k)) refl plain) (λ new. stops_ok IsPlain k))

-- a set below 2^n has few members
pub few_members : (n set : ℕ) → set < 2 ^ n → n ≤ 16384 → size set ≤ 16384
few_members n set below few = omega (arith, size_le n set below, few)

-- a list of references
module _ (listed : Listed) (trades : AreTrades listed) (f : ℕ) (few : length (sides_of listed.ends f) ≤ most_own_trades)
    (place : List PlaceStep) (plain : IsPlainPlace place) where
  reference_stops : (bundle : ℕ) (value : Data) → bundle < 2 ^ length (sides_of listed.ends f)
      → StopsPlainly (own_reference listed f place bundle value)
  unfolding own_reference
  reference_stops bundle value own =
      let at = place ++ Index (size bundle) ∷ [] in
      let few_before : size bundle ≤ 16384 =
      few_members (length (sides_of listed.ends f)) bundle own (omega (arith, few)) in
      stops_bind IsPlain (new_own listed f None at bundle value) _
      (new_own_stops at (plain_within place (Index (size bundle) ∷ []) plain (few_before, tt)) listed f None bundle
      value) (λ k.
      stops_ok IsPlain (toggle bundle k))

  pub bundle_stops : (value : Option Data) → StopsPlainly (bundle_at listed f place value)
  unfolding bundle_at
  bundle_stops value =
      stops_bind IsPlain (list_at place value) _ (list_stops place plain value) (λ references.
      stops_each IsPlain (λ b. b < 2 ^ length (sides_of listed.ends f)) (own_reference listed f place)
      (reference_leads listed trades f place) reference_stops 0 references
      (pow_pos (length (sides_of listed.ends f))))

-- a reference at a plain place stops plainly, and gives a number below n
pub record RefersPlainly (n : ℕ) (refer : Refers) : Type 0 where
  pub stops : (place : List PlaceStep) (named : ℕ) (value : Data) → IsPlainPlace place
      → StopsPlainly (refer place named value)
  pub below : (place : List PlaceStep) (named : ℕ) (value : Data) → Leads (λ k. k < n) (refer place named value)

module _ (n : ℕ) (few : n ≤ 16384) (refer : Refers) (refers : RefersPlainly n refer) (place : List PlaceStep)
    (plain : IsPlainPlace place) (limit : ℕ) where
  pub entry_stops : (named : ℕ) (entry : Data) → named < 2 ^ n → StopsPlainly (entry_of refer place limit named entry)
  unfolding entry_of
  entry_stops named entry below =
      let few_before : size named ≤ 16384 = few_members n named below few in
      stops_bind IsPlain (two_at (place ++ Index (size named) ∷ []) entry) _
      (two_stops (place ++ Index (size named) ∷ []) (plain_within place (Index (size named) ∷ []) plain (
        few_before,
        tt,
      )) entry) (λ two.
      stops_bind IsPlain (refer (place ++ Index (size named) ∷ Index 0 ∷ []) named two.0) _
      (refers.stops (place ++ Index (size named) ∷ Index 0 ∷ []) named two.0
      (plain_within place (Index (size named) ∷ Index 0 ∷ []) plain (few_before, (omega arith, tt)))) (λ k.
      stops_bind IsPlain (number_at limit (place ++ Index (size named) ∷ Index 1 ∷ []) two.1) _
      (number_stops (place ++ Index (size named) ∷ Index 1 ∷ [])
      (plain_within place (Index (size named) ∷ Index 1 ∷ []) plain (few_before, (omega arith, tt))) limit
      (Some two.1)) (λ number.
      stops_ok IsPlain (k, number))))

  pub entry_below : (named : ℕ) (entry : Data) → Leads (λ next. next.0 < n) (entry_of refer place limit named entry)
  unfolding entry_of
  entry_below named entry =
      leads_after (λ next. next.0 < n) (two_at (place ++ Index (size named) ∷ []) entry) _ (λ two.
      leads_bind (λ k. k < n) (λ next. next.0 < n) (refer (place ++ Index (size named) ∷ Index 0 ∷ []) named two.0) _
      (refers.below (place ++ Index (size named) ∷ Index 0 ∷ []) named two.0) (λ k below.
      leads_after (λ next. next.0 < n) (number_at limit (place ++ Index (size named) ∷ Index 1 ∷ []) two.1) _ (λ number.
      leads_ok (λ next. next.0 < n) (k, number) below)))

  one_entry_stops : (numbered : Numbered) (entry : Data) → numbered.named < 2 ^ n
      → StopsPlainly (one_entry refer place limit numbered entry)
  unfolding one_entry
  one_entry_stops numbered entry below =
      stops_bind IsPlain (entry_of refer place limit numbered.named entry) _ (entry_stops numbered.named entry below)
      (λ next. stops_ok IsPlain _)

  one_entry_below : (numbered : Numbered) (entry : Data) → numbered.named < 2 ^ n
      → Leads (λ next. next.named < 2 ^ n) (one_entry refer place limit numbered entry)
  unfolding one_entry
  one_entry_below numbered entry below =
      leads_bind (λ next. next.0 < n) (λ next. next.named < 2 ^ n) (entry_of refer place limit numbered.named entry) _
      (entry_below numbered.named entry) (λ next known.
      leads_ok (λ next. next.named < 2 ^ n) (record {
        named = toggle numbered.named next.0;
        numbers =
            slice_set numbered.numbers next.0 next.1;
      }) (toggle_within numbered.named next.0 n below known))

  pub entries_stop : (numbers : List ℤ) (entries : Items)
      → StopsPlainly (each (one_entry refer place limit) (record { named = 0; numbers = numbers }) entries)
  entries_stop numbers entries =
      stops_each IsPlain (λ (numbered : Numbered). numbered.named < 2 ^ n) (one_entry refer place limit) one_entry_below
      one_entry_stops (record { named = 0; numbers = numbers }) entries (pow_pos n)
