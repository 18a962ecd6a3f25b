-- Reading that tells the names beside a fault: what is said of its value and of its stop.
use Rattle.std.proofs.Common.{◌≡◌, ℕ, ◌<◌, List, length, drop, get_or, Result, Ok, Err, refl}
use Rattle.serde_json.specs.Data.{Data}
use Rattle.serde_json.specs.View.{view, items_view}
use Rattle.serde_json.specs.declared.value.Value.{Value}
use Rattle.tn_said.specs.declared.said.Fault.{Fault}
use Rattle.tn_names.specs.Names.{NameLists}
use Rattle.tn_read_shapes.specs.declared.error.ReadError.{ReadError}
use Rattle.tn_read_shapes.specs.declared.error.ReadError.TheVariants.{Fault as FaultIs, OutOfMemory}
use Rattle.tn_read_head.specs.Beside.{Stop, FailsBeside, with_names}
use Rattle.tn_read_shapes.specs.Reading.{each}
use Rattle.tn_read_shapes.proofs.LeadLemmas.{Leads, leads_ok}
use Rattle.tn_read_shapes.proofs.EachLemmas.{each_stops_at}
use Rattle.tn_read_shapes.proofs.StopLemmas.{Stops, stops_ok, stops_err}

pub each_fails_beside : {A : Type 0} (step : A → Data
    → Result A Stop) (names : NameLists) (e : ReadError) (vs : List Value) (k : ℕ) (d : Value) (found : A)
    (total : Result A Stop) → k < length vs
    → FailsBeside names e (step found (view (get_or vs k d)))
    → each step found (items_view (drop k vs)) ≡ total → FailsBeside names e total
each_fails_beside step names OutOfMemory vs k d found total h fails so_far = tt
each_fails_beside step names (FaultIs f) vs k d found total h fails so_far =
    each_stops_at step vs k d found (record { fault = f; names = names }) total h fails so_far

pub leads_beside : {A : Type 0} (P : A → Type 0) (names : NameLists) (r : Result A Fault) → Leads P r
    → Leads P (with_names names r)
leads_beside P names (Ok x) first = leads_ok P x (first.at x refl)
leads_beside P names (Err e) first = record { at = λ y e. absurd (cc) }

-- a stop beside names
pub stops_beside : {A : Type 0} (Q : Stop → Type 0) (R : Fault → Type 0) (names : NameLists) (r : Result A Fault)
    → ((f : Fault) → R f → Q (record { fault = f; names = names })) → Stops R r → Stops Q (with_names names r)
stops_beside Q R names (Ok x) turn first = stops_ok Q x
stops_beside Q R names (Err f) turn first = stops_err Q (record { fault = f; names = names }) (turn f (first.at f refl))
