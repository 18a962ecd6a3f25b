-- What holds of every document that is read, and of every fault, in words that know nothing of the reading.
use Rattle.std.specs.Prelude.{◌≡◌, ◌≢◌, ℕ, ◌≤◌, ◌<◌, ◌^◌, List, [], length, slice_get, codes, true, false, Some, option_and_then, Ok, Err}
use Rattle.serde_json.specs.Data.{Data}
use Rattle.serde_json.specs.Find.{get, as_number, as_u64}
use Rattle.tn_said.specs.declared.fault.FaultKind.TheVariants.{TooLong}
use Rattle.tn_base.specs.Firm.{Firm, HasOwnBundles, MayAbstain}
use Rattle.tn_market.specs.Accepted.{AreAccepted}
use Rattle.tn_market.specs.Limits.{AreWorthsWithin}
use Rattle.tn_said.specs.ClaimLimits.{IsClaimWithin}
use Rattle.tn_model.specs.Limits.{limits_of, most_worth_among}
use Rattle.tn_model.specs.OutcomeLimits.{IsOutcomeWithin}
use Rattle.tn_model.specs.declared.ends.Ends.{Ends}
use Rattle.tn_model.specs.declared.limits.Limits.{Limits}
use Rattle.tn_model.specs.Network.{IsNetwork, HaveAscendingPositions}
use Rattle.tn_names.specs.Names.{IsNameList}
use Rattle.tn_file.specs.declared.command.Command.{Command}
use Rattle.tn_read_head.specs.Beside.{Stop, IsStop}
use Rattle.tn_file.specs.Json.{json_of}
use Rattle.tn_file.specs.Document.{DocumentData, ExtraData, nothing, arrangement, on_alone, outcome, edits, claim, is_accepted}
use Rattle.tn_file.specs.Readings.{AnyDocument, UnitExtra, network, units, no_part, arranged, counts_on, unit_edits, answers_units, any_reading_of, no_such_version, says_units}
use Rattle.tn_read_shapes.specs.Shapes.{object_of}
use Rattle.tn_read_shapes.specs.declared.members.ObjectKind.TheVariants.{Top}
use Rattle.tn_read_units.specs.Documents.{IsUnitDocument}
use Rattle.tn_counts.specs.declared.trade.UnitTrade.{UnitTrade}
use Rattle.tn_read_units.specs.Firms.{UnitDocument}
use Rattle.tn_read_units.specs.Limits.{unit_version}
use Rattle.tn_read_unit_parts.specs.Arranged.{AreCountsOf, IsUnitArrangement}
use Rattle.tn_read_unit_parts.specs.Edited.{AreUnitEdits}
use Rattle.tn_read_units.specs.Stops.{IsNamedDocument}
use Rattle.tn_read_claims.specs.Laws.{KeepsClaimLimits}
use Rattle.tn_read_firms.specs.Laws.{IsListedFirm}
use Rattle.tn_read_parts.specs.Arranged.{IsArrangement}
use Rattle.tn_said.specs.Edits.{AreEdits}

abbrev pub IsExtra : List Firm → List Ends → ExtraData → Type 0
IsExtra firms trades nothing = Unit {0}
IsExtra firms trades (arrangement part) = IsArrangement (length trades) part
IsExtra firms trades (on_alone on) = on < 2 ^ length trades
IsExtra firms trades (outcome signed) = IsOutcomeWithin (length trades) signed
IsExtra firms trades (edits listed) = AreEdits (length firms) (length trades) listed
IsExtra firms trades (claim read) = IsClaimWithin firms trades read

-- of the parts beside a network, edits and claims have limits that differ by version
abbrev pub KeepsLimits : Limits → ExtraData → Type 0
KeepsLimits limits (edits listed) = length listed ≤ limits.edits
KeepsLimits limits (claim read) = KeepsClaimLimits limits read
KeepsLimits limits extra = Unit {0}

pub record IsDocument (command : Command) (doc : DocumentData) : Type 0 where
  -- different names that keep the rule, one for each firm and one for each trade
  pub firm_names : IsNameList doc.names.firms
  pub trade_names : IsNameList doc.names.trades
  pub firms_named : length doc.names.firms ≡ length doc.firms
  pub trades_named : length doc.names.trades ≡ length doc.ends
  -- no more firms and trades than the limits of a version allow, and firms within these limits
  pub version : ℕ
  pub limits : Limits
  pub limits_are : limits_of version ≡ Some limits
  pub few_firms : length doc.firms ≤ limits.firms
  pub few_trades : length doc.ends ≤ limits.trades
  pub listed : (f : ℕ) (firm : Firm) → slice_get doc.firms f ≡ Some firm → IsListedFirm limits doc.ends f firm
  -- worths are smaller where there are many trades
  pub worths : AreWorthsWithin (most_worth_among (length doc.ends)) doc.firms
  -- each trade has two different firms of the list, and firms and trades fit together
  pub network : IsNetwork doc.firms doc.ends
  -- at a later position of a firm stands a later trade
  pub ascending : HaveAscendingPositions doc.firms doc.ends
  -- of each firm only bundles of own trades are possible, and the empty one is
  pub own_bundles : (f : ℕ) (firm : Firm) → slice_get doc.firms f ≡ Some firm → HasOwnBundles firm
  pub abstain : (f : ℕ) (firm : Firm) → slice_get doc.firms f ≡ Some firm → MayAbstain firm
  -- a market may be made of the firms, unless the network is read raw: each meets exchange
  pub accepted : is_accepted command doc.extra ≡ true → AreAccepted doc.firms
  pub extra : IsExtra doc.firms doc.ends doc.extra
  pub extra_keeps : KeepsLimits limits doc.extra

-- the bytes are JSON whose member `version` is this number
pub record SaysVersion (bytes : List ℕ) (version : ℕ) : Type 0 where
  pub top : Data
  pub stands : json_of bytes ≡ Some top
  pub says : option_and_then as_u64 (option_and_then as_number (get (codes "version") top)) ≡ Some version

-- a document, within the limits of the version that its bytes say
pub record IsDocumentOf (command : Command) (bytes : List ℕ) (doc : DocumentData) : Type 0 where
  pub document : IsDocument command doc
  pub version : SaysVersion bytes document.version

-- counts within the units, and small prices
abbrev pub IsUnitExtra : ℕ → List UnitTrade → UnitExtra → Type 0
IsUnitExtra firms trades no_part = Unit {0}
IsUnitExtra firms trades (arranged part) = IsUnitArrangement trades part
IsUnitExtra firms trades (counts_on counts) = AreCountsOf trades counts
IsUnitExtra firms trades (unit_edits listed) = AreUnitEdits firms trades listed

-- laminar firms between which trades have units, with their names, and what is read beside them
pub record IsUnitsWith (doc : UnitDocument) (extra : UnitExtra) : Type 0 where
  pub network : IsUnitDocument doc
  pub named : IsNamedDocument doc
  pub beside : IsUnitExtra (length doc.head.names.firms) doc.head.trades extra

-- a document of any version: a network, or one whose trades have units
abbrev pub IsAnyDocument : Command → AnyDocument → Type 0
IsAnyDocument command (network doc) = IsDocument command doc
IsAnyDocument command (units doc extra) = IsUnitsWith doc extra

-- within the limits of the version that its bytes say
abbrev pub IsAnyDocumentOf : Command → List ℕ → AnyDocument → Type 0
IsAnyDocumentOf command bytes (network doc) = IsDocumentOf command bytes doc
IsAnyDocumentOf command bytes (units doc extra) = IsUnitsWith doc extra × SaysVersion bytes unit_version

-- every document that is read is one
abbrev pub DocumentsAreNetworks : Type 0
DocumentsAreNetworks = (command : Command) (bytes : List ℕ) (doc : AnyDocument) → any_reading_of command bytes ≡ Ok doc
    → IsAnyDocumentOf command bytes doc

-- where a command answers no documents whose trades have units, their version is its first fault, once their members are
-- those of a document
abbrev pub UnitsAreAVersionOfSome : Type 0
UnitsAreAVersionOfSome = (command : Command) (bytes : List ℕ) (top : Data) → json_of bytes ≡ Some top
    → answers_units command ≡ false → says_units top ≡ true → object_of Top [] (Some top) ≡ Ok tt
    → any_reading_of command bytes ≡ Err no_such_version

-- wherever reading stops, its fault and the names beside it keep the rules of a stop
abbrev pub FaultsAreSayable : Type 0
FaultsAreSayable = (command : Command) (bytes : List ℕ) (stop : Stop) → any_reading_of command bytes ≡ Err stop
    → IsStop stop

-- no byte of an input that is too long is read: wherever reading stops, it isn't for that
abbrev pub ReadingsAreNeverTooLong : Type 0
ReadingsAreNeverTooLong = (command : Command) (bytes : List ℕ) (stop : Stop) → any_reading_of command bytes ≡ Err stop
    → stop.fault.kind ≢ TooLong
