-- Reading that returns the names beside a fault.
use Rattle.std.specs.Prelude.{◌≡◌, Result, Ok, Err}
use Rattle.tn_names.specs.Names.{NameLists}
use Rattle.tn_read_head.specs.declared.refusal.DocRefusal.{DocRefusal}
use Rattle.tn_read_head.specs.declared.refusal.DocRefusal.TheVariants.{Fault, OutOfMemory}
use Rattle.tn_read_head.specs.Beside.{Stop}
use Rattle.tn_read_shapes.specs.declared.error.ReadError.{ReadError}
use Rattle.tn_read_shapes.specs.declared.error.ReadError.TheVariants.{Fault as FaultIs, OutOfMemory as OutOfMemoryIs}

-- the refusal where reading failed beside these names
abbrev pub refusal_of : NameLists → ReadError → DocRefusal
refusal_of names (FaultIs fault) = Fault fault names
refusal_of names OutOfMemoryIs = OutOfMemory

-- what a function returned, seen by view, is what reading gives, or the first fault beside the names, unless memory ran
-- out
abbrev pub Reads : {X Y : Type 0} → (X → Y) → Result X DocRefusal → Result Y Stop → Type 0
Reads view (Ok x) reading = reading ≡ Ok (view x)
Reads view (Err (Fault fault names)) reading = reading ≡ Err (record { fault = fault; names = names })
Reads view (Err OutOfMemory) reading = Unit {0}
