-- The edits: trades that are admitted and barred, and firms that leave and join, one after the other.
use Rattle.std.specs.Prelude.{ℕ, ◌++◌, [], ◌∷◌, List, length, codes, if◌then◌else◌, Option, Some, None, Result, Ok}
use Rattle.std.specs.Str.{bytes_eq}
use Rattle.serde_json.specs.Data.{Data}
use Rattle.serde_json.specs.Find.{get}
use Rattle.tn_said.specs.declared.fault.FaultKind.TheVariants.{Shape}
use Rattle.tn_said.specs.declared.session.Edit.{Edit}
use Rattle.tn_said.specs.declared.session.Edit.TheVariants.{Admit, AdmitAll, Bar, BarAll, Join, Leave}
use Rattle.tn_said.specs.declared.place.PlaceStep.{PlaceStep}
use Rattle.tn_said.specs.declared.place.PlaceStep.TheVariants.{Index, Key}
use Rattle.tn_said.specs.declared.place.Word.TheVariants.{Edits}
use Rattle.tn_said.specs.declared.said.Fault.{Fault}
use Rattle.tn_names.specs.Names.{NameLists}
use Rattle.tn_read_shapes.specs.Reading.{◌>>=◌, each, wanted}
use Rattle.tn_read_shapes.specs.Shapes.{few_at, text_at, two_at}
use Rattle.tn_read_references.specs.Ordered.{Listed}
use Rattle.tn_read_references.specs.References.{firm_at, trade_at}
use Rattle.tn_read_parts.specs.declared.edits.Change.{Change}
use Rattle.tn_read_parts.specs.declared.edits.Change.TheVariants.{Admit as AdmitIs, Bar as BarIs, Join as JoinIs, Leave as LeaveIs}

abbrev pub edit_place : ℕ → List PlaceStep
edit_place k = Key Edits ∷ Index k ∷ []

-- what a text says is done
abbrev pub change_named : List ℕ → Option Change
change_named text =
    if bytes_eq text (codes "admit") then Some AdmitIs
    else (if bytes_eq text (codes "bar") then Some BarIs
    else (if bytes_eq text (codes "leave") then Some LeaveIs
    else (if bytes_eq text (codes "join") then Some JoinIs else None)))

-- the text that stands for all trades
abbrev pub all_trades : List ℕ
all_trades = codes "*"

-- the trade that a reference names; none where it is the text for all trades
unfoldable pub trade_or_all : List (List ℕ) → List PlaceStep → Data → Result (Option ℕ) Fault
trade_or_all trades place value = do
  text ← text_at place (Some value)
  if bytes_eq text all_trades then Ok None else (trade_at trades place value >>= (λ t. Ok (Some t)))

-- one trade is admitted or barred, or all are
abbrev pub admit_of : Option ℕ → Edit
admit_of None = AdmitAll
admit_of (Some t) = Admit t

abbrev pub bar_of : Option ℕ → Edit
bar_of None = BarAll
bar_of (Some t) = Bar t

-- the edit that does this with what a reference names: trades are admitted and barred, firms leave and join
unfoldable pub edit_of : NameLists → Change → List PlaceStep → Data → Result Edit Fault
edit_of names AdmitIs place value = do
  t ← trade_or_all names.trades place value
  Ok (admit_of t)
edit_of names BarIs place value = do
  t ← trade_or_all names.trades place value
  Ok (bar_of t)
edit_of names LeaveIs place value = do
  f ← firm_at names.firms place (Some value)
  Ok (Leave f)
edit_of names JoinIs place value = do
  f ← firm_at names.firms place (Some value)
  Ok (Join f)

-- the edit with an index, of a firm or trade that earlier edits may name too
unfoldable pub edit_at : NameLists → ℕ → Data → Result Edit Fault
edit_at names k entry = do
  two ← two_at (edit_place k) entry
  text ← text_at (edit_place k ++ Index 0 ∷ []) (Some two.0)
  change ← wanted Shape (edit_place k ++ Index 0 ∷ []) (change_named text)
  edit_of names change (edit_place k ++ Index 1 ∷ []) two.1

-- one more edit; its index is the count of those before it
unfoldable pub one_edit : NameLists → List Edit → Data → Result (List Edit) Fault
one_edit names edits entry = do
  edit ← edit_at names (length edits) entry
  Ok (edits ++ edit ∷ [])

-- no more edits than the limit of the document, in their order
unfoldable pub edits_of : Listed → Data → Result (List Edit) Fault
edits_of listed top = do
  entries ← few_at listed.limits.edits (Key Edits ∷ []) (get (codes "edits") top)
  each (one_edit listed.names) [] entries
