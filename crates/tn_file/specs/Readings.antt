-- The reading of bytes whatever their version: a network of single trades, or a document whose trades have units.
use Rattle.std.specs.Prelude.{ℕ, [], ◌∷◌, List, codes, Bool, true, false, ◌&&◌, ◌==◌, option_map, option_and_then, unwrap_or, None, Result, Ok, Err}
use Rattle.serde_json.specs.Data.{Data}
use Rattle.serde_json.specs.Find.{get, as_number, as_u64}
use Rattle.tn_said.specs.declared.fault.FaultKind.TheVariants.{NotJson, Shape}
use Rattle.tn_said.specs.declared.place.PlaceStep.TheVariants.{Key}
use Rattle.tn_said.specs.declared.place.Word.TheVariants.{Version}
use Rattle.tn_names.specs.Names.{NameLists, no_names}
use Rattle.tn_file.specs.declared.command.Command.{Command}
use Rattle.tn_file.specs.declared.command.Command.TheVariants.{Check, Firms, Judge, Replay, Session, Support}
use Rattle.tn_read_head.specs.Beside.{Stop, with_names}
use Rattle.tn_read_shapes.specs.Reading.{◌>>=◌, wanted}
use Rattle.tn_read_units.specs.Firms.{UnitDocument, document_of as unit_document_of}
use Rattle.tn_read_units.specs.Limits.{unit_version}
use Rattle.tn_read_units.specs.Trades.{UnitTrades}
use Rattle.tn_read_unit_parts.specs.Arranged.{UnitArranged, counts_on_of, unit_arrangement_of}
use Rattle.tn_read_unit_parts.specs.Edited.{unit_edits_of}
use Rattle.tn_said.specs.declared.session.UnitEdit.{UnitEdit}
use Rattle.tn_said.specs.declared.said.Fault.{Fault}
use Rattle.tn_file.specs.Document.{DocumentData, document_of}
use Rattle.tn_file.specs.Json.{json_of}

-- whether a command answers documents whose trades have units; to another their version is none
abbrev pub answers_units : Command → Bool
answers_units Judge = false
answers_units Replay = false
answers_units command = true

-- whether a value says the version of documents whose trades have units
abbrev pub says_units : Data → Bool
says_units top = unwrap_or (option_map (λ version. version == unit_version) (option_and_then as_u64
    (option_and_then as_number (get (codes "version") top)))) false

-- what is read beside firms by counts
pub data UnitExtra : Type 0 where
  no_part : UnitExtra
  arranged : UnitArranged → UnitExtra
  -- how many units of each trade go alone
  counts_on : List ℕ → UnitExtra
  unit_edits : List UnitEdit → UnitExtra

-- what a command reads beside them
unfoldable pub unit_extra_of : Command → UnitTrades → Data → Result UnitExtra Fault
unit_extra_of Check head top = do
  part ← unit_arrangement_of head top
  Ok (arranged part)
unit_extra_of Firms head top = do
  part ← unit_arrangement_of head top
  Ok (arranged part)
unit_extra_of Session head top = do
  listed ← unit_edits_of head top
  Ok (unit_edits listed)
unit_extra_of Support head top = do
  counts ← counts_on_of head top
  Ok (counts_on counts)
unit_extra_of command head top = Ok no_part

-- a document of single trades, or one of trades that have units, with what is read beside its firms
pub data AnyDocument : Type 0 where
  network : DocumentData → AnyDocument
  units : UnitDocument → UnitExtra → AnyDocument

abbrev pub names_in : AnyDocument → NameLists
names_in (network doc) = doc.names
names_in (units doc extra) = doc.head.names

-- a reading of a network as one of any document
abbrev pub as_network : Result DocumentData Stop → Result AnyDocument Stop
as_network (Ok doc) = Ok (network doc)
as_network (Err stop) = Err stop

-- what a value stands for whose trades have units
unfoldable pub units_of : Command → Data → Result AnyDocument Stop
units_of command top = do
  doc ← unit_document_of top
  extra ← with_names doc.head.names (unit_extra_of command doc.head top)
  Ok (units doc extra)

-- what a value stands for by whether it is read as one whose trades have units
abbrev pub any_document_by : Bool → Command → Data → Result AnyDocument Stop
any_document_by true command top = units_of command top
any_document_by false command top = as_network (document_of command top)

abbrev pub any_document_of : Command → Data → Result AnyDocument Stop
any_document_of command top = any_document_by (answers_units command && says_units top) command top

-- the reading of bytes
unfoldable pub any_reading_of : Command → List ℕ → Result AnyDocument Stop
any_reading_of command bytes = do
  top ← with_names no_names (wanted NotJson [] (json_of bytes))
  any_document_of command top

-- that the version is none of a command's
abbrev pub no_such_version : Stop
no_such_version = record {
  fault = record { kind = Shape; place = Key Version ∷ []; shown = None };
  names = no_names;
}
