-- The firms of a document of units, as they are written.
use Rattle.std.specs.Prelude.{ℕ, ◌+◌, ◌++◌, [], ◌∷◌, nat_le, List, length, codes, not, Option, Some, Result, Ok}
use Rattle.std.specs.Str.{bytes_eq}
use Rattle.serde_json.specs.Data.{Data, Items}
use Rattle.serde_json.specs.Events.{items_len}
use Rattle.serde_json.specs.Find.{get}
use Rattle.tn_base.specs.Sets.{has, size, toggle}
use Rattle.tn_said.specs.declared.fault.FaultKind.TheVariants.{Limit, SameTrade, Shape}
use Rattle.tn_said.specs.declared.place.PlaceStep.{PlaceStep}
use Rattle.tn_said.specs.declared.place.PlaceStep.TheVariants.{Index, Key}
use Rattle.tn_said.specs.declared.place.Word.TheVariants.{Amounts, Kind, Sets}
use Rattle.tn_said.specs.declared.said.Fault.{Fault}
use Rattle.tn_counts.specs.Widths.{most_count_sets}
use Rattle.tn_read_shapes.specs.Reading.{◌>>=◌, each, holds}
use Rattle.tn_read_shapes.specs.Shapes.{number_at, object_of, optional_list_at, text_at, two_at}
use Rattle.tn_read_shapes.specs.declared.members.FirmKind.TheVariants.{Laminar}
use Rattle.tn_read_shapes.specs.declared.members.ObjectKind.TheVariants.{Firm as FirmObject}
use Rattle.tn_read_references.specs.References.{firm_place}
use Rattle.tn_read_head.specs.Beside.{Stop, with_names}
use Rattle.tn_read_units.specs.Checks.{check_sets}
use Rattle.tn_read_units.specs.Heads.{head_of}
use Rattle.tn_read_units.specs.Limits.{most_number}
use Rattle.tn_read_units.specs.Own.{own_trade}
use Rattle.tn_read_units.specs.Sets.{WrittenSet, sets_of}
use Rattle.tn_read_units.specs.Trades.{UnitTrades}
use Rattle.tn_read_units.specs.declared.amounts.Amount.{Amount}

-- the amounts that entries have given so far: the set of their trades, and the list
pub record OwnAmounts : Type 0 where
  pub named : ℕ
  pub entries : List Amount

-- one more amount of firm f; the index of an entry is the count of those before it
unfoldable pub one_amount : UnitTrades → ℕ → List PlaceStep → OwnAmounts → Data → Result OwnAmounts Fault
one_amount head f place amounts entry = do
  two ← two_at (place ++ Index (size amounts.named) ∷ []) entry
  own ← own_trade head f (place ++ Index (size amounts.named) ∷ Index 0 ∷ []) two.0
  new ← holds SameTrade (place ++ Index (size amounts.named) ∷ Index 0 ∷ []) (not (has amounts.named own.0))
  number ← number_at most_number (place ++ Index (size amounts.named) ∷ Index 1 ∷ []) two.1
  Ok (record {
    named = toggle amounts.named own.0;
    entries = amounts.entries ++ record { trade = own.0; side = own.1; number = number } ∷ [];
  })

abbrev pub amounts_place : ℕ → List PlaceStep
amounts_place f = firm_place f ++ Key Amounts ∷ []

-- the amounts of firm f, none where the member isn't there
unfoldable pub amounts_at : UnitTrades → ℕ → Option Data → Result OwnAmounts Fault
amounts_at head f value = do
  entries ← optional_list_at (amounts_place f) value
  each (one_amount head f (amounts_place f)) (record { named = 0; entries = [] }) entries

-- a firm as it is written
pub record WrittenFirm : Type 0 where
  pub amounts : OwnAmounts
  pub sets : List WrittenSet

-- every firm is laminar
unfoldable pub kind_at : ℕ → Data → Result (Unit {0}) Fault
kind_at f firm = do
  kind ← text_at (firm_place f ++ Key Kind ∷ []) (get (codes "kind") firm)
  holds Shape (firm_place f ++ Key Kind ∷ []) (bytes_eq kind (codes "laminar"))

-- not too many sets after so many of earlier firms, none where the member isn't there; all are read before one is tested
unfoldable pub sets_at : UnitTrades → ℕ → ℕ → Option Data → Result (List WrittenSet) Fault
sets_at head before f value = do
  items ← optional_list_at (firm_place f ++ Key Sets ∷ []) value
  few ← holds Limit (firm_place f ++ Key Sets ∷ []) (nat_le (before + items_len items) most_count_sets)
  sets ← sets_of head f items
  met ← check_sets f [] sets
  Ok sets

-- firm f after so many sets of earlier firms
unfoldable pub firm_of : UnitTrades → ℕ → ℕ → Data → Result WrittenFirm Fault
firm_of head before f firm = do
  kind ← kind_at f firm
  object ← object_of (FirmObject Laminar) (firm_place f) (Some firm)
  amounts ← amounts_at head f (get (codes "amounts") firm)
  sets ← sets_at head before f (get (codes "sets") firm)
  Ok (record { amounts = amounts; sets = sets })

-- how many sets the firms so far have, and the firms
pub record WrittenFirms : Type 0 where
  pub sets : ℕ
  pub firms : List WrittenFirm

-- one more firm; its number is the count of those before it
unfoldable pub one_firm : UnitTrades → WrittenFirms → Data → Result WrittenFirms Fault
one_firm head before firm = do
  next ← firm_of head before.sets (length before.firms) firm
  Ok (record { sets = before.sets + length next.sets; firms = before.firms ++ next ∷ [] })

-- all firms of a document
abbrev pub firms_of : UnitTrades → Items → Result WrittenFirms Fault
firms_of head items = each (one_firm head) (record { sets = 0; firms = [] }) items

-- a document of units: its head, and its firms as they are written
pub record UnitDocument : Type 0 where
  pub head : UnitTrades
  pub firms : List WrittenFirm

unfoldable pub document_of : Data → Result UnitDocument Stop
document_of top = do
  read ← head_of top
  all ← with_names read.0.names (firms_of read.0 read.1)
  Ok (record { head = read.0; firms = all.firms })
