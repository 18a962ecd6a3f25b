-- The edits of a document whose trades have units: units that are admitted or barred, and firms that leave and join.
use Rattle.std.specs.Prelude.{◌≡◌, ℕ, ◌<◌, ◌≤◌, ◌*◌, ◌^◌, nat_le, ◌++◌, [], ◌∷◌, List, length, codes, unsigned_abs, All, Option, Some, None, Result, Ok, Err}
use Rattle.serde_json.specs.Data.{Data, Items, no_items, item}
use Rattle.serde_json.specs.Events.{items_len}
use Rattle.serde_json.specs.Find.{get}
use Rattle.tn_counts.specs.Counts.{trade_at}
use Rattle.tn_counts.specs.declared.trade.UnitTrade.{UnitTrade}
use Rattle.tn_model.specs.Limits.{most_edits}
use Rattle.tn_said.specs.declared.fault.FaultKind.TheVariants.{Limit, Shape}
use Rattle.tn_said.specs.declared.place.PlaceStep.{PlaceStep}
use Rattle.tn_said.specs.declared.place.PlaceStep.TheVariants.{Index, Key}
use Rattle.tn_said.specs.declared.place.Word.TheVariants.{Edits}
use Rattle.tn_said.specs.declared.said.Fault.{Fault}
use Rattle.tn_said.specs.declared.session.UnitEdit.{UnitEdit}
use Rattle.tn_said.specs.declared.session.UnitEdit.TheVariants.{Admit, AdmitAll, BarAll, Join, Leave}
use Rattle.tn_read_parts.specs.Edited.{change_named, edit_place, trade_or_all}
use Rattle.tn_read_parts.specs.declared.edits.Change.{Change}
use Rattle.tn_read_parts.specs.declared.edits.Change.TheVariants.{Admit as AdmitIs, Bar as BarIs, Join as JoinIs, Leave as LeaveIs}
use Rattle.tn_read_references.specs.References.{firm_at, trade_at as trade_named}
use Rattle.tn_read_shapes.specs.Reading.{◌>>=◌, each, fault, holds, wanted}
use Rattle.tn_read_shapes.specs.Shapes.{few_at, list_at, text_at}
use Rattle.tn_read_unit_parts.specs.Entries.{units_within}
use Rattle.tn_read_units.specs.Trades.{UnitTrades}

-- edits times trades are at most so many
abbrev pub most_edited_trades : ℕ
most_edited_trades = 2 ^ 21

-- an edit's word, what that is done with, and how many units, where it says so
abbrev pub parts_in : Items → Option (Data × Data × Option Data)
parts_in (item d (item e no_items)) = Some (d, e, None)
parts_in (item d (item e (item f no_items))) = Some (d, e, Some f)
parts_in _ = None

-- a list of two or three
unfoldable pub edit_parts_at : List PlaceStep → Data → Result (Data × Data × Option Data) Fault
edit_parts_at place value = do
  items ← list_at place (Some value)
  wanted Shape place (parts_in items)

-- all units of one trade are admitted, or those of all trades
abbrev pub admit_whole : List UnitTrade → Option ℕ → UnitEdit
admit_whole trades None = AdmitAll
admit_whole trades (Some t) = Admit t (trade_at trades t).units

-- and none of one trade, or of any
abbrev pub admit_none : Option ℕ → UnitEdit
admit_none None = BarAll
admit_none (Some t) = Admit t 0

-- the edit that does this with what a reference names; units are given to one trade alone
unfoldable pub edit_of : UnitTrades → Change → ℕ → Data → Option Data → Result UnitEdit Fault
edit_of head AdmitIs k reference (Some units) = do
  t ← trade_named head.names.trades (edit_place k ++ Index 1 ∷ []) reference
  n ← units_within (trade_at head.trades t).units (edit_place k ++ Index 2 ∷ []) units
  Ok (Admit t (unsigned_abs n))
edit_of head AdmitIs k reference None = do
  t ← trade_or_all head.names.trades (edit_place k ++ Index 1 ∷ []) reference
  Ok (admit_whole head.trades t)
edit_of head BarIs k reference None = do
  t ← trade_or_all head.names.trades (edit_place k ++ Index 1 ∷ []) reference
  Ok (admit_none t)
edit_of head LeaveIs k reference None = do
  f ← firm_at head.names.firms (edit_place k ++ Index 1 ∷ []) (Some reference)
  Ok (Leave f)
edit_of head JoinIs k reference None = do
  f ← firm_at head.names.firms (edit_place k ++ Index 1 ∷ []) (Some reference)
  Ok (Join f)
edit_of head BarIs k reference (Some units) = Err (fault Shape (edit_place k))
edit_of head LeaveIs k reference (Some units) = Err (fault Shape (edit_place k))
edit_of head JoinIs k reference (Some units) = Err (fault Shape (edit_place k))

-- the edit with an index, of a firm or trade that earlier edits may name too
unfoldable pub edit_at : UnitTrades → ℕ → Data → Result UnitEdit Fault
edit_at head k entry = do
  parts ← edit_parts_at (edit_place k) entry
  text ← text_at (edit_place k ++ Index 0 ∷ []) (Some parts.0)
  change ← wanted Shape (edit_place k ++ Index 0 ∷ []) (change_named text)
  edit_of head change k parts.1 parts.2

-- one more edit; its index is the count of those before it
unfoldable pub one_edit : UnitTrades → List UnitEdit → Data → Result (List UnitEdit) Fault
one_edit head edits entry = do
  edit ← edit_at head (length edits) entry
  Ok (edits ++ edit ∷ [])

-- not too many edits, in their order
unfoldable pub unit_edits_of : UnitTrades → Data → Result (List UnitEdit) Fault
unit_edits_of head top = do
  entries ← few_at most_edits (Key Edits ∷ []) (get (codes "edits") top)
  few ← holds Limit (Key Edits ∷ []) (nat_le (items_len entries * length head.trades) most_edited_trades)
  each (one_edit head) [] entries

-- an edit of one of so many firms, or of so many units of a trade as it has
abbrev pub IsKnownUnitEdit : ℕ → List UnitTrade → UnitEdit → Type 0
IsKnownUnitEdit firms trades (Admit t n) = (t < length trades) × (n ≤ (trade_at trades t).units)
IsKnownUnitEdit firms trades AdmitAll = Unit {0}
IsKnownUnitEdit firms trades BarAll = Unit {0}
IsKnownUnitEdit firms trades (Leave f) = f < firms
IsKnownUnitEdit firms trades (Join f) = f < firms

-- not too many edits, each of firms and trades that there are
pub record AreUnitEdits (firms : ℕ) (trades : List UnitTrade) (edits : List UnitEdit) : Type 0 where
  pub few : length edits ≤ most_edits
  pub known : All (IsKnownUnitEdit firms trades) edits
