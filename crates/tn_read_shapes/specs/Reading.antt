-- Reading in order, up to the first fault.
use Rattle.std.specs.Prelude.{◌≡◌, List, Bool, true, false, Option, Some, None, Result, Ok, Err}
use Rattle.tn_said.specs.declared.fault.FaultKind.{FaultKind}
use Rattle.tn_said.specs.declared.place.PlaceStep.{PlaceStep}
use Rattle.tn_said.specs.declared.said.Fault.{Fault}
use Rattle.tn_read_shapes.specs.declared.error.ReadError.{ReadError}
use Rattle.tn_read_shapes.specs.declared.error.ReadError.TheVariants.{Fault as FaultIs, OutOfMemory}
use Rattle.serde_json.specs.Data.{Data, Items, no_items, item}

infixl 10 ◌>>=◌
abbrev pub ◌>>=◌ : {A B E : Type 0} → Result A E → (A → Result B E) → Result B E
(Ok x) >>= f = f x
(Err e) >>= f = Err e

-- a fault without a failing triple
abbrev pub fault : FaultKind → List PlaceStep → Fault
fault kind place = record { kind = kind; place = place; shown = None }

-- what is there, and otherwise a fault
abbrev pub wanted : {A : Type 0} → FaultKind → List PlaceStep → Option A → Result A Fault
wanted kind place (Some x) = Ok x
wanted kind place None = Err (fault kind place)

-- what is said of a fault that was made: it is this one, unless memory ran out
abbrev pub IsFaultAt : FaultKind → List PlaceStep → ReadError → Type 0
IsFaultAt kind place OutOfMemory = Unit {0}
IsFaultAt kind place (FaultIs f) = f ≡ fault kind place

-- a fault where the test fails
abbrev pub holds : FaultKind → List PlaceStep → Bool → Result (Unit {0}) Fault
holds kind place true = Ok tt
holds kind place false = Err (fault kind place)

-- the items of a list one after the other, each beside what the earlier ones gave
unfoldable pub each : {A E : Type 0} → (A → Data → Result A E) → A → Items → Result A E
each step found no_items = Ok found
each step found (item d ds) = do
  next ← step found d
  each step next ds

-- What a function returned, seen by view, is what reading gives, unless memory ran out.
abbrev pub FailsAsRead : {Y : Type 0} → ReadError → Result Y Fault → Type 0
FailsAsRead OutOfMemory read = Unit {0}
FailsAsRead (FaultIs f) read = read ≡ Err f

abbrev pub Gives : {X Y : Type 0} → (X → Y) → Result X ReadError → Result Y Fault → Type 0
Gives view (Ok x) read = read ≡ Ok (view x)
Gives view (Err e) read = FailsAsRead e read
