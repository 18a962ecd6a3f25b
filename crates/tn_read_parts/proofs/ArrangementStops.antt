-- Wherever the reading of an arrangement stops, its fault speaks of named trades.
use Rattle.std.proofs.Common.{ℕ, ◌≤◌, List, [], ◌∷◌, length, Some, refl}
use Rattle.std.specs.Prelude.{codes}
use Rattle.serde_json.specs.Data.{Data}
use Rattle.serde_json.specs.Find.{get}
use Rattle.tn_said.specs.declared.fault.FaultKind.TheVariants.{Shape}
use Rattle.tn_said.specs.declared.place.PlaceStep.TheVariants.{Key}
use Rattle.tn_said.specs.declared.place.Word.TheVariants.{Arrangement}
use Rattle.tn_read_shapes.specs.declared.members.ObjectKind.TheVariants.{Arrangement as ArrangementObject}
use Rattle.tn_read_shapes.specs.Reading.{each, wanted}
use Rattle.tn_read_shapes.specs.Shapes.{list_at, object_of}
use Rattle.tn_read_shapes.proofs.ShapeStops.{list_stops, object_stops}
use Rattle.tn_read_shapes.proofs.StopLemmas.{IsPlain, Stops, StopsPlainly, plain_wanted, stops_bind, stops_ok}
use Rattle.tn_read_references.specs.Ordered.{Listed}
use Rattle.tn_read_references.proofs.ToldLemmas.{IsTold, told_from_plain}
use Rattle.tn_read_parts.specs.Lists.{one_on, prices_of}
use Rattle.tn_read_parts.specs.Arranged.{on_place, prices_place, on_of, trades_on_of, arrangement_of}
use Rattle.tn_read_parts.proofs.ListStops.{prices_stop, set_stops}

module _ (trades : List (List ℕ)) (few : length trades ≤ 16384) where
  pub on_stops : (top : Data) → StopsPlainly (on_of trades top)
  unfolding on_of
  on_stops top =
      stops_bind IsPlain (wanted Shape (Key Arrangement ∷ []) (get (codes "arrangement") top)) _
      (plain_wanted Shape (Key Arrangement ∷ []) (get (codes "arrangement") top) refl (tt, tt)) (λ part.
      stops_bind IsPlain (object_of ArrangementObject (Key Arrangement ∷ []) (Some part)) _
      (object_stops (Key Arrangement ∷ []) (tt, tt) ArrangementObject (Some part)) (λ object.
      stops_bind IsPlain (list_at on_place (get (codes "on") part)) _
      (list_stops on_place (tt, (tt, tt)) (get (codes "on") part)) (λ references.
      stops_bind IsPlain (each (one_on trades on_place) 0 references) _
      (set_stops trades few on_place (tt, (tt, tt)) references) (λ on.
      stops_ok IsPlain (part, on)))))

  pub trades_on_stop : (top : Data) → StopsPlainly (trades_on_of trades top)
  unfolding trades_on_of
  trades_on_stop top =
      stops_bind IsPlain (on_of trades top) _ (on_stops top) (λ part.
      stops_ok IsPlain part.1)

pub arrangement_stops : (listed : Listed) → length listed.names.trades ≤ 16384 → (top : Data)
    → Stops (IsTold listed.names.trades) (arrangement_of listed top)
unfolding arrangement_of
arrangement_stops listed few top =
    let trades = listed.names.trades in
    let limit = listed.limits.price in
    stops_bind (IsTold trades) (on_of trades top) _ (told_from_plain trades _ (on_stops trades few top)) (λ part.
    stops_bind (IsTold trades) (list_at prices_place (get (codes "prices") part.0)) _
    (told_from_plain trades _ (list_stops prices_place (tt, (tt, tt)) (get (codes "prices") part.0))) (λ entries.
    stops_bind (IsTold trades) (prices_of trades prices_place limit entries) _
    (prices_stop trades few prices_place (tt, (tt, tt)) limit entries) (λ prices.
    stops_ok (IsTold trades) (record { on = part.1; prices = prices }))))
