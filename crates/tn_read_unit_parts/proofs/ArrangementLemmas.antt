-- What the arrangement is that reading gives, and where its reading stops.
use Rattle.std.proofs.Common.{◌≡◌, ℕ, zero, suc, ◌^◌, ◌<◌, ◌≤◌, List, [], ◌∷◌, length, map, get_or, Some, refl, sym, subst, ◌∙◌, arith}
use Rattle.std.specs.Prelude.{ℤ, pos, codes, unsigned_abs, All}
use Rattle.std.proofs.lemmas.List.{get_or_default, length-map}
use Rattle.serde_json.specs.Data.{Data}
use Rattle.serde_json.specs.Find.{get}
use Rattle.tn_base.specs.Arcs.{IsAtMost}
use Rattle.tn_counts.specs.Counts.{trade_at}
use Rattle.tn_counts.specs.Widths.{most_unit_price, most_unit_trades}
use Rattle.tn_said.specs.declared.fault.FaultKind.TheVariants.{Shape}
use Rattle.tn_said.specs.declared.place.PlaceStep.TheVariants.{Key}
use Rattle.tn_said.specs.declared.place.Word.TheVariants.{Arrangement}
use Rattle.tn_read_references.proofs.ToldLemmas.{IsTold, told_from_plain}
use Rattle.tn_read_shapes.specs.declared.members.ObjectKind.TheVariants.{Arrangement as ArrangementObject}
use Rattle.tn_read_shapes.specs.Reading.{wanted}
use Rattle.tn_read_shapes.specs.Shapes.{list_at, object_of}
use Rattle.tn_read_shapes.proofs.LeadLemmas.{Leads, leads_after, leads_bind, leads_ok}
use Rattle.tn_read_shapes.proofs.ShapeStops.{list_stops, object_stops}
use Rattle.tn_read_shapes.proofs.StopLemmas.{IsPlain, Stops, StopsPlainly, plain_wanted, stops_bind, stops_ok}
use Rattle.tn_read_unit_parts.specs.Arranged.{AreCountsOf, IsUnitArrangement, counts_on_of, on_of, unit_arrangement_of}
use Rattle.tn_read_unit_parts.specs.Entries.{numbered, numbers_place, prices_of}
use Rattle.tn_read_unit_parts.specs.declared.entries.EntryNumbers.TheVariants.{Units, Prices}
use Rattle.tn_read_unit_parts.proofs.EntryLemmas.{AreNumbersOf, numbers_lead, numbers_stop, plain_at, prices_lead, prices_stop}
use Rattle.tn_read_units.specs.Heads.{AreUnitTrades}
use Rattle.tn_read_units.specs.Trades.{UnitTrades}

-- a count at a place is the size of the number there
count_there : (numbers : List ℤ) (t : ℕ) → get_or (map unsigned_abs numbers) t 0 ≡ unsigned_abs (get_or numbers t (pos 0))
count_there [] t = refl
count_there (z ∷ numbers) zero = refl
count_there (z ∷ numbers) (suc t) = count_there numbers t

counts_are : (head : UnitTrades) (numbers : List ℤ) → AreNumbersOf head Units numbers
    → AreCountsOf head.trades (map unsigned_abs numbers)
counts_are head numbers are = record {
  counted = length-map numbers unsigned_abs ∙ are.counted;
  within = λ t below. subst (λ (n : ℕ). n ≤ (trade_at head.trades t).units) (sym (count_there numbers t))
      (are.each t below);
}

-- units of a trade fit a count
pub counts_fit : (head : UnitTrades) → AreUnitTrades head → (numbers : List ℤ) → AreNumbersOf head Units numbers
    → All (λ z. unsigned_abs z < 2 ^ 32) numbers
counts_fit head kept numbers are =
    λ t d below.
    let less : t < length head.trades = omega (arith, below, are.counted) in
    let units = are.each t less in
    let few = (kept.each t (record { seller = 0; buyer = 0; units = 0 }) less).few in
    subst (λ (z : ℤ). unsigned_abs z < 2 ^ 32) (get_or_default numbers t (pos 0) d below) (omega (arith, units, few))

-- numbers by place are all small
all_small : (numbers : List ℤ) (n : ℕ) → length numbers ≡ n
    → ((t : ℕ) → t < n → IsAtMost (get_or numbers t (pos 0)) most_unit_price) → All (λ z. IsAtMost z most_unit_price) numbers
all_small numbers n count each =
    λ t d below. subst (λ (z : ℤ). IsAtMost z most_unit_price) (get_or_default numbers t (pos 0) d below)
    (each t (omega (arith, below, count)))

module _ (head : UnitTrades) (named_as : length head.names.trades ≡ length head.trades)
    (few : length head.trades ≤ most_unit_trades) where
  abbrev HasCounts : Data × List ℕ → Type 0
  HasCounts part = AreCountsOf head.trades part.1

  on_leads : (top : Data) → Leads HasCounts (on_of head top)
  unfolding on_of
  on_leads top =
      leads_after HasCounts (wanted Shape (Key Arrangement ∷ []) (get (codes "arrangement") top)) _ (λ part.
      leads_after HasCounts (object_of ArrangementObject (Key Arrangement ∷ []) (Some part)) _ (λ object.
      leads_after HasCounts (list_at (numbers_place Units) (get (codes "on") part)) _ (λ entries.
      leads_bind (λ given. AreNumbersOf head Units given.numbers) HasCounts (numbered head Units entries) _
      (numbers_lead head named_as few Units entries) (λ given are.
      leads_ok HasCounts (part, map unsigned_abs given.numbers) (counts_are head given.numbers are)))))

  pub counts_on_leads : (top : Data) → Leads (AreCountsOf head.trades) (counts_on_of head top)
  unfolding counts_on_of
  counts_on_leads top =
      leads_bind HasCounts (AreCountsOf head.trades) (on_of head top) _ (on_leads top) (λ part are.
      leads_ok (AreCountsOf head.trades) part.1 are)

  pub unit_arrangement_leads : (top : Data) → Leads (IsUnitArrangement head.trades) (unit_arrangement_of head top)
  unfolding unit_arrangement_of
  unit_arrangement_leads top =
      leads_bind HasCounts (IsUnitArrangement head.trades) (on_of head top) _ (on_leads top) (λ part counts.
      leads_after (IsUnitArrangement head.trades) (list_at (numbers_place Prices) (get (codes "prices") part.0)) _
      (λ entries.
      leads_bind (AreNumbersOf head Prices) (IsUnitArrangement head.trades) (prices_of head entries) _
      (prices_lead head named_as few entries) (λ prices are.
      leads_ok (IsUnitArrangement head.trades) (record { counts = part.1; prices = prices }) (record {
        counts = counts;
        priced = are.counted;
        small = all_small prices (length head.trades) are.counted are.each;
      }))))

  on_stops : (top : Data) → StopsPlainly (on_of head top)
  unfolding on_of
  on_stops top =
      stops_bind IsPlain (wanted Shape (Key Arrangement ∷ []) (get (codes "arrangement") top)) _
      (plain_wanted Shape (Key Arrangement ∷ []) (get (codes "arrangement") top) refl (tt, tt)) (λ part.
      stops_bind IsPlain (object_of ArrangementObject (Key Arrangement ∷ []) (Some part)) _
      (object_stops (Key Arrangement ∷ []) (tt, tt) ArrangementObject (Some part)) (λ object.
      stops_bind IsPlain (list_at (numbers_place Units) (get (codes "on") part)) _
      (list_stops (numbers_place Units) (plain_at Units) (get (codes "on") part)) (λ entries.
      stops_bind IsPlain (numbered head Units entries) _ (numbers_stop head named_as few Units entries) (λ given.
      stops_ok IsPlain (part, map unsigned_abs given.numbers)))))

  pub counts_on_stop : (top : Data) → StopsPlainly (counts_on_of head top)
  unfolding counts_on_of
  counts_on_stop top =
      stops_bind IsPlain (on_of head top) _ (on_stops top) (λ part.
      stops_ok IsPlain part.1)

  pub unit_arrangement_stops : (top : Data) → Stops (IsTold head.names.trades) (unit_arrangement_of head top)
  unfolding unit_arrangement_of
  unit_arrangement_stops top =
      let trades = head.names.trades in
      stops_bind (IsTold trades) (on_of head top) _ (told_from_plain trades _ (on_stops top)) (λ part.
      stops_bind (IsTold trades) (list_at (numbers_place Prices) (get (codes "prices") part.0)) _
      (told_from_plain trades _ (list_stops (numbers_place Prices) (plain_at Prices) (get (codes "prices") part.0)))
      (λ entries.
      stops_bind (IsTold trades) (prices_of head entries) _ (prices_stop head named_as few entries) (λ prices.
      stops_ok (IsTold trades) (record { counts = part.1; prices = prices }))))
