-- Laminar firms: amounts, and sets of own trades with a number for each net count.
use Rattle.std.specs.Prelude.{◌≡◌, ℕ, ◌+◌, ◌++◌, [], ◌∷◌, ℤ, pos, ◌+ℤ◌, ◌*ℤ◌, int_lt, unsigned_abs, nat_le, List, length, codes, Bool, not, ◌==◌, ◌&&◌, if◌then◌else◌, Option, Some, None, is_some, Result, Ok, Err}
use Rattle.std.specs.List.{list_any}
use Rattle.serde_json.specs.Data.{Data}
use Rattle.serde_json.specs.Events.{items_len}
use Rattle.serde_json.specs.Find.{get}
use Rattle.tn_base.specs.Firm.{Firm}
use Rattle.tn_base.specs.Sets.{meet, minus}
use Rattle.tn_base.specs.declared.side.Side.{Side}
use Rattle.tn_said.specs.declared.fault.FaultKind.TheVariants.{Limit, NoEmpty, NotConcave, NotLaminar}
use Rattle.tn_firm_laws.specs.Nested.{listed_from}
use Rattle.tn_laminar.specs.declared.set.LaminarSet.{LaminarSet}
use Rattle.tn_laminar.specs.declared.refusal.LaminarRefusal.{LaminarRefusal}
use Rattle.tn_laminar.specs.declared.refusal.LaminarRefusal.TheVariants.{NoEmpty as NoEmptyIs, NotConcave as NotConcaveIs, NotLaminar as NotLaminarIs, OutOfMemory as OutOfMemoryIs}
use Rattle.tn_laminar.specs.Sum.{laminar_firm}
use Rattle.tn_model.specs.declared.limits.Limits.{Limits}
use Rattle.tn_said.specs.declared.place.PlaceStep.{PlaceStep}
use Rattle.tn_said.specs.declared.place.PlaceStep.TheVariants.{Index, Key}
use Rattle.tn_said.specs.declared.place.Word.TheVariants.{Firms, Trades, Amounts, Sets, From, Values}
use Rattle.tn_said.specs.declared.said.Fault.{Fault}
use Rattle.tn_read_shapes.specs.declared.error.ReadError.{ReadError}
use Rattle.tn_read_shapes.specs.declared.error.ReadError.TheVariants.{OutOfMemory}
use Rattle.tn_read_firms.specs.declared.own_numbers.OwnList.{OwnList}
use Rattle.tn_read_shapes.specs.declared.members.ObjectKind.TheVariants.{LaminarSet as LaminarSetObject}
use Rattle.tn_read_shapes.specs.Reading.{◌>>=◌, IsFaultAt, fault, each, holds}
use Rattle.tn_read_shapes.specs.Shapes.{whole_at, number_at, few_at, optional_list_at, object_of}
use Rattle.tn_read_references.specs.Ordered.{Listed, sides_of}
use Rattle.tn_read_references.specs.References.{firm_place, bundle_at}
use Rattle.tn_read_firms.specs.OwnNumbers.{no_numbers, own_numbers}

abbrev pub set_place : ℕ → ℕ → List PlaceStep
set_place f s = Key Firms ∷ Index f ∷ Key Sets ∷ Index s ∷ []

-- the net count that the first number is for
unfoldable pub low_at : Limits → List PlaceStep → Option Data → Result ℤ Fault
low_at limits place value = do
  low ← whole_at place value
  near ← holds Limit place (nat_le (unsigned_abs low) limits.from)
  Ok low

-- one more number; its index is the count of those before it
unfoldable pub one_value : Limits → ℕ → ℕ → List ℤ → Data → Result (List ℤ) Fault
one_value limits f s numbers value = do
  number ← number_at limits.amount (set_place f s ++ Key Values ∷ Index (length numbers) ∷ []) value
  Ok (numbers ++ number ∷ [])

-- not too many numbers
unfoldable pub values_at : Limits → ℕ → ℕ → Option Data → Result (List ℤ) Fault
values_at limits f s value = do
  values ← few_at limits.values (set_place f s ++ Key Values ∷ []) value
  each (one_value limits f s) [] values

-- set s of firm f
unfoldable pub laminar_set_of : Listed → ℕ → ℕ → Data → Result LaminarSet Fault
laminar_set_of listed f s set = do
  object ← object_of LaminarSetObject (set_place f s) (Some set)
  members ← bundle_at listed f (set_place f s ++ Key Trades ∷ []) (get (codes "trades") set)
  low ← low_at listed.limits (set_place f s ++ Key From ∷ []) (get (codes "from") set)
  numbers ← values_at listed.limits f s (get (codes "values") set)
  Ok (record { members = members; low = low; numbers = numbers })

-- one more set; its number is the count of those before it
unfoldable pub one_set : Listed → ℕ → List LaminarSet → Data → Result (List LaminarSet) Fault
one_set listed f sets set = do
  next ← laminar_set_of listed f (length sets) set
  Ok (sets ++ next ∷ [])

-- not too many sets, none where the member isn't there
unfoldable pub sets_at : Listed → ℕ → Option Data → Result (List LaminarSet) Fault
sets_at listed f value = do
  sets ← optional_list_at (firm_place f ++ Key Sets ∷ []) value
  few ← holds Limit (firm_place f ++ Key Sets ∷ []) (nat_le (items_len sets) listed.limits.sets)
  each (one_set listed f) [] sets

-- a number is below the middle of its two neighbours
abbrev pub bends : ℤ → ℤ → ℤ → Bool
bends before number after = int_lt (pos 2 *ℤ number) (before +ℤ after)

-- the first such number's place in a list whose first number has place k
abbrev pub first_bend : ℕ → List ℤ → Option ℕ
first_bend k (before ∷ number ∷ after ∷ numbers) = if bends before number after then Some (k + 1)
    else first_bend (k + 1) (number ∷ after ∷ numbers)
first_bend k _ = None

abbrev pub unless_bent : ℕ → ℕ → Option ℕ → Result (Unit {0}) Fault
unless_bent f s None = Ok tt
unless_bent f s (Some place) = Err (fault NotConcave (set_place f s ++ Key Values ∷ Index place ∷ []))

-- what is said of the fault of firm f that its sets are refused
abbrev pub IsRefusal : ℕ → LaminarRefusal → ReadError → Type 0
IsRefusal f (NoEmptyIs s) e = IsFaultAt NoEmpty (set_place f s) e
IsRefusal f (NotConcaveIs s place) e = IsFaultAt NotConcave (set_place f s ++ Key Values ∷ Index place ∷ []) e
IsRefusal f (NotLaminarIs s) e = IsFaultAt NotLaminar (set_place f s) e
IsRefusal f OutOfMemoryIs e = e ≡ OutOfMemory

-- two sets have a member in common, and neither contains the other
abbrev pub crosses : LaminarSet → LaminarSet → Bool
crosses set other = not (meet other.members set.members == 0) && not (minus other.members set.members == 0)
    && not (minus set.members other.members == 0)

-- a set after earlier ones has a number at 0, is concave and crosses none of them
unfoldable pub check_set : ℕ → List LaminarSet → LaminarSet → Result (Unit {0}) Fault
check_set f earlier set = do
  empty ← holds NoEmpty (set_place f (length earlier)) (is_some (listed_from set.low set.numbers (pos 0)))
  concave ← unless_bent f (length earlier) (first_bend 0 set.numbers)
  holds NotLaminar (set_place f (length earlier)) (not (list_any (crosses set) earlier))

-- so is each set of a list after earlier ones
abbrev pub check_sets : ℕ → List LaminarSet → List LaminarSet → Result (Unit {0}) Fault
check_sets f earlier [] = Ok tt
check_sets f earlier (set ∷ sets) = do
  met ← check_set f earlier set
  check_sets f (earlier ++ set ∷ []) sets

abbrev pub amounts_list : ℕ → OwnList
amounts_list f = record { firm = f; member = Key Amounts; side = None }

-- the laminar firm of sets that pass
unfoldable pub checked_laminar : ℕ → List Side → List ℤ → List LaminarSet → Result Firm Fault
checked_laminar f sides amounts sets = do
  met ← check_sets f [] sets
  Ok (laminar_firm sides amounts sets)

-- the laminar firm f; all sets are read before the first is checked
unfoldable pub laminar_of : Listed → ℕ → Data → Result Firm Fault
laminar_of listed f firm = do
  amounts ← own_numbers listed (amounts_list f) (no_numbers listed.ends f) (get (codes "amounts") firm)
  sets ← sets_at listed f (get (codes "sets") firm)
  checked_laminar f (sides_of listed.ends f) amounts sets
