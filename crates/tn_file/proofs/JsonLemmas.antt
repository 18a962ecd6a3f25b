-- The JSON value of bytes.
use Rattle.std.proofs.Common.{◌≡◌, ℕ, List, Bool, true, false, cond, refl, ap}
use Rattle.std.specs.Prelude.{Option, None}
use Rattle.std.specs.Str.{IsUtf8, is_utf8}
use Rattle.std.proofs.lemmas.Str.{IsUtf8-from_is_utf8, is_utf8-from_IsUtf8}
use Rattle.serde_json.specs.Read.{read}
use Rattle.tn_said.specs.declared.fault.FaultKind.{FaultKind}
use Rattle.tn_said.specs.declared.place.PlaceStep.{PlaceStep}
use Rattle.tn_read_shapes.specs.declared.error.ReadError.{ReadError}
use Rattle.tn_read_shapes.specs.declared.error.ReadError.TheVariants.{Fault as FaultIs, OutOfMemory}
use Rattle.tn_file.specs.Json.{json_of}
use Rattle.tn_read_shapes.specs.Reading.{FailsAsRead, IsFaultAt, wanted}

pub json_of-text : (bytes : List ℕ) → IsUtf8 bytes → json_of bytes ≡ read bytes
unfolding json_of
json_of-text bytes text = ap (λ b. cond b (read bytes) None) (is_utf8-from_IsUtf8 bytes text)

pub json_of-none : (bytes : List ℕ) → (IsUtf8 bytes → read bytes ≡ None) → json_of bytes ≡ None
unfolding json_of
json_of-none bytes none = by_test (is_utf8 bytes) refl
  where
    by_test : (b : Bool) → is_utf8 bytes ≡ b → cond b (read bytes) None ≡ None
    by_test true is = none (IsUtf8-from_is_utf8 bytes is)
    by_test false is = refl

pub wanted-fails : {A : Type 0} (kind : FaultKind) (place : List PlaceStep) (e : ReadError) (found : Option A)
    → IsFaultAt kind place e → found ≡ None → FailsAsRead e (wanted kind place found)
wanted-fails kind place OutOfMemory found is none = tt
wanted-fails kind place (FaultIs f) found is none = rw (none, is) refl
