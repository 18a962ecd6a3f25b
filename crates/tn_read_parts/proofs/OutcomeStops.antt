-- Wherever the reading of an outcome stops, its fault is plain.
use Rattle.std.proofs.Common.{ℕ, ◌≤◌, ◌&&◌, pos, List, length, Option, Some, refl}
use Rattle.std.specs.Prelude.{codes, int_le}
use Rattle.serde_json.specs.Data.{Data, Items}
use Rattle.serde_json.specs.Find.{get}
use Rattle.tn_said.specs.declared.fault.FaultKind.TheVariants.{Shape, BadOver}
use Rattle.tn_said.specs.declared.place.PlaceStep.{PlaceStep}
use Rattle.tn_read_shapes.specs.declared.members.ObjectKind.TheVariants.{Outcome as OutcomeObject}
use Rattle.tn_read_shapes.specs.Reading.{wanted, holds}
use Rattle.tn_read_shapes.specs.Shapes.{list_at, object_of, whole_at}
use Rattle.tn_read_shapes.proofs.ShapeStops.{list_stops, object_stops, whole_stops}
use Rattle.tn_read_shapes.proofs.StopLemmas.{IsPlain, IsPlainPlace, StopsPlainly, plain_holds, plain_wanted, stops_bind, stops_ok}
use Rattle.tn_read_references.specs.Ordered.{Listed}
use Rattle.tn_read_parts.specs.Lists.{named_prices, contracts_at}
use Rattle.tn_read_parts.specs.Signed.{outcome_place, over_place, contracts_place, over_at, outcome_of}
use Rattle.tn_read_parts.proofs.ListStops.{named_stops}

pub over_stops : (limit : ℕ) (place : List PlaceStep) → IsPlainPlace place → (value : Option Data)
    → StopsPlainly (over_at limit place value)
unfolding over_at
over_stops limit place plain value =
    stops_bind IsPlain (whole_at place value) _ (whole_stops place plain value) (λ over.
    stops_bind IsPlain (holds BadOver place (int_le (pos 1) over && int_le over (pos limit))) _
    (plain_holds BadOver place (int_le (pos 1) over && int_le over (pos limit)) refl plain) (λ within.
    stops_ok IsPlain over))

module _ (trades : List (List ℕ)) (few : length trades ≤ 16384) where
  pub contracts_stop : (place : List PlaceStep) → IsPlainPlace place → (limit : ℕ) (entries : Items)
      → StopsPlainly (contracts_at trades place limit entries)
  unfolding contracts_at
  contracts_stop place plain limit entries =
      stops_bind IsPlain (named_prices trades place limit entries) _ (named_stops trades few place plain limit entries)
      (λ priced.
      stops_ok IsPlain _)

pub outcome_stops : (listed : Listed) → length listed.names.trades ≤ 16384 → (top : Data)
    → StopsPlainly (outcome_of listed top)
unfolding outcome_of
outcome_stops listed few top =
    let trades = listed.names.trades in
    let most = listed.limits.over in
    let limit = listed.limits.numerator in
    stops_bind IsPlain (wanted Shape outcome_place (get (codes "outcome") top)) _
    (plain_wanted Shape outcome_place (get (codes "outcome") top) refl (tt, tt)) (λ part.
    stops_bind IsPlain (object_of OutcomeObject outcome_place (Some part)) _
    (object_stops outcome_place (tt, tt) OutcomeObject (Some part)) (λ object.
    stops_bind IsPlain (over_at most over_place (get (codes "over") part)) _
    (over_stops most over_place (tt, (tt, tt)) (get (codes "over") part)) (λ over.
    stops_bind IsPlain (list_at contracts_place (get (codes "contracts") part)) _
    (list_stops contracts_place (tt, (tt, tt)) (get (codes "contracts") part)) (λ entries.
    stops_bind IsPlain (contracts_at trades contracts_place limit entries) _
    (contracts_stop trades few contracts_place (tt, (tt, tt)) limit entries) (λ contracts.
    stops_ok IsPlain (record { over = over; contracts = contracts }))))))
