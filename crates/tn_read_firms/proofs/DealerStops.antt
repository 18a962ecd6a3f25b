-- Where the reading of dealers stops.
use Rattle.std.proofs.Common.{ℕ, ◌≤◌, List, [], ◌∷◌, ◌++◌, length, Some, refl, arith}
use Rattle.std.specs.Prelude.{codes, not}
use Rattle.std.specs.List.{list_any}
use Rattle.serde_json.specs.Data.{Data}
use Rattle.serde_json.specs.Find.{get}
use Rattle.tn_said.specs.declared.fault.FaultKind.TheVariants.{SamePair}
use Rattle.tn_base.specs.declared.side.Side.TheVariants.{Buy, Sell}
use Rattle.tn_dealer.specs.declared.pair.Pair.{Pair}
use Rattle.tn_dealer.specs.Pairs.{dealer_firm}
use Rattle.tn_model.specs.Limits.{most_own_trades}
use Rattle.tn_said.specs.declared.place.PlaceStep.TheVariants.{Index}
use Rattle.tn_read_shapes.specs.Reading.{each, holds}
use Rattle.tn_read_shapes.specs.Shapes.{optional_list_at, number_at, three_at}
use Rattle.tn_read_shapes.proofs.StopLemmas.{IsPlain, IsPlainPlace, StopsPlainly, plain_holds, stops_bind, stops_each, stops_ok}
use Rattle.tn_read_shapes.proofs.ShapeStops.{optional_list_stops, number_stops, three_stops}
use Rattle.tn_read_references.specs.Ordered.{Listed, AreTrades, sides_of}
use Rattle.tn_read_references.specs.References.{own_position}
use Rattle.tn_read_references.proofs.ReferenceStops.{own_position_stops}
use Rattle.tn_read_firms.specs.Dealers.{pairs_place, pair_place, pair_of, is_same_pair, one_pair, dealer_of}
use Rattle.tn_read_firms.proofs.DealerLeads.{AreNew, few_new, no_pairs, one_pair_leads}

module _ (listed : Listed) (trades : AreTrades listed) (f : ℕ) (near : f ≤ 16384) (few : length (sides_of listed.ends f)
    ≤ most_own_trades) where
  entry_plain : (k i : ℕ) → k ≤ 16384 → i ≤ 16384 → IsPlainPlace (pair_place f k ++ Index i ∷ [])
  entry_plain k i early small = (tt, (near, (tt, (early, (small, tt)))))

  pair_stops : (k : ℕ) (entry : Data) → k ≤ 16384 → StopsPlainly (pair_of listed f k entry)
  unfolding pair_of
  pair_stops k entry early =
      stops_bind IsPlain (three_at (pair_place f k) entry) _
      (three_stops (pair_place f k) (tt, (near, (tt, (early, tt)))) entry) (λ three.
      stops_bind IsPlain (own_position listed f (Some Buy) (pair_place f k ++ Index 0 ∷ []) three.0) _
      (own_position_stops (pair_place f k ++ Index 0 ∷ []) (entry_plain k 0 early (omega arith)) listed f (Some Buy)
      three.0) (λ buy.
      stops_bind IsPlain (own_position listed f (Some Sell) (pair_place f k ++ Index 1 ∷ []) three.1) _
      (own_position_stops (pair_place f k ++ Index 1 ∷ []) (entry_plain k 1 early (omega arith)) listed f
      (Some Sell) three.1) (λ sell.
      stops_bind IsPlain (number_at listed.limits.amount (pair_place f k ++ Index 2 ∷ []) three.2) _
      (number_stops (pair_place f k ++ Index 2 ∷ []) (entry_plain k 2 early (omega arith)) listed.limits.amount
      (Some three.2)) (λ cost.
      stops_ok IsPlain (record { buy = buy; sell = sell; cost = cost })))))

  one_pair_stops : (pairs : List Pair) (entry : Data) → AreNew listed trades f pairs
      → StopsPlainly (one_pair listed f pairs entry)
  unfolding one_pair
  one_pair_stops pairs entry are =
      let early : length pairs ≤ 16384 = omega (arith, few_new listed trades f pairs few are) in
      stops_bind IsPlain (pair_of listed f (length pairs) entry) _ (pair_stops (length pairs) entry early) (λ next.
      stops_bind IsPlain (holds SamePair (pair_place f (length pairs)) (not (list_any (is_same_pair next) pairs))) _
      (plain_holds SamePair (pair_place f (length pairs)) (not (list_any (is_same_pair next) pairs)) refl (
        tt,
        (near, (tt, (early, tt))),
      )) (λ new.
      stops_ok IsPlain (pairs ++ next ∷ [])))

  pub dealer_stops : (firm : Data) → StopsPlainly (dealer_of listed f firm)
  unfolding dealer_of
  dealer_stops firm =
      stops_bind IsPlain (optional_list_at (pairs_place f) (get (codes "pairs") firm)) _
      (optional_list_stops (pairs_place f) (tt, (near, (tt, tt))) (get (codes "pairs") firm)) (λ entries.
      stops_bind IsPlain (each (one_pair listed f) [] entries) _
      (stops_each IsPlain (AreNew listed trades f) (one_pair listed f) (one_pair_leads listed trades f) one_pair_stops
      [] entries (no_pairs listed trades f)) (λ pairs.
      stops_ok IsPlain (dealer_firm (sides_of listed.ends f) pairs)))
