-- The reading of a document: what it stands for, or the first fault.
use Rattle.std.specs.Prelude.{ℕ, [], List, Bool, true, false, not, Result, Ok}
use Rattle.serde_json.specs.Data.{Data, Items}
use Rattle.tn_said.specs.declared.fault.FaultKind.TheVariants.{NotJson}
use Rattle.tn_base.specs.Firm.{Firm}
use Rattle.tn_said.specs.Claim.{Claim as ClaimIs, is_raw}
use Rattle.tn_model.specs.declared.contract.Outcome.{Outcome as OutcomeIs}
use Rattle.tn_model.specs.declared.ends.Ends.{Ends}
use Rattle.tn_said.specs.declared.said.Fault.{Fault}
use Rattle.tn_said.specs.declared.session.Edit.{Edit}
use Rattle.tn_names.specs.Names.{NameLists, no_names}
use Rattle.tn_file.specs.declared.command.Command.{Command}
use Rattle.tn_file.specs.declared.command.Command.TheVariants.{Check, Firms, Judge, Range, Replay, Session, Solve, Support, Test}
use Rattle.tn_read_references.specs.Ordered.{Listed}
use Rattle.tn_read_head.specs.Beside.{Stop, with_names}
use Rattle.tn_read_shapes.specs.Reading.{◌>>=◌, each, wanted}
use Rattle.tn_file.specs.Json.{json_of}
use Rattle.tn_read_firms.specs.Firms.{one_firm}
use Rattle.tn_read_parts.specs.Arranged.{Arranged, arrangement_of, trades_on_of}
use Rattle.tn_read_parts.specs.Signed.{outcome_of}
use Rattle.tn_read_parts.specs.Edited.{edits_of}
use Rattle.tn_read_claims.specs.Claimed.{claim_of, claims_raw}
use Rattle.tn_read_head.specs.Listing.{listed_of}

-- what is read beside the network
pub data ExtraData : Type 0 where
  nothing : ExtraData
  arrangement : Arranged → ExtraData
  -- the trades that are on
  on_alone : ℕ → ExtraData
  outcome : OutcomeIs → ExtraData
  edits : List Edit → ExtraData
  claim : ClaimIs → ExtraData

-- each firm is to meet exchange, unless the network is read raw, as it is for a claim on exchange, and for the
-- one that there are no prices
abbrev pub is_tested : Command → Data → Bool
is_tested Firms top = false
is_tested Replay top = not (claims_raw top)
is_tested Test top = false
is_tested command top = true

-- whether a claim was read that is made of firms which meet exchange
abbrev pub claims_market : ExtraData → Bool
claims_market (claim read) = not (is_raw read)
claims_market extra = false

-- each firm has met exchange, by the command and what was read beside the network
abbrev pub is_accepted : Command → ExtraData → Bool
is_accepted Firms extra = false
is_accepted Replay extra = claims_market extra
is_accepted Test extra = false
is_accepted command extra = true

-- what a command reads beside the network
unfoldable pub extra_of : Command → Listed → Data → Result ExtraData Fault
extra_of Check listed top = do
  arranged ← arrangement_of listed top
  Ok (arrangement arranged)
extra_of Firms listed top = do
  arranged ← arrangement_of listed top
  Ok (arrangement arranged)
extra_of Judge listed top = do
  signed ← outcome_of listed top
  Ok (outcome signed)
extra_of Range listed top = Ok nothing
extra_of Replay listed top = do
  read ← claim_of listed top
  Ok (claim read)
extra_of Session listed top = do
  changes ← edits_of listed top
  Ok (edits changes)
extra_of Solve listed top = Ok nothing
extra_of Support listed top = do
  on ← trades_on_of listed.names.trades top
  Ok (on_alone on)
extra_of Test listed top = Ok nothing

-- the firms that are listed, and then the extra part
unfoldable pub content_of : Command → Listed → Items → Data → Result (List Firm × ExtraData) Fault
content_of command listed items top = do
  firms ← each (one_firm (is_tested command top) listed) [] items
  extra ← extra_of command listed top
  Ok (firms, extra)

-- firms, the ends of the trades in file order, and what is read beside them
pub record ContentData : Type 0 where
  pub firms : List Firm
  pub ends : List Ends
  pub extra : ExtraData

-- what a document stands for
pub record DocumentData : Type 0 where
  pub names : NameLists
  pub firms : List Firm
  -- the ends of the trades, in file order
  pub ends : List Ends
  pub extra : ExtraData

-- the document with this head, and this list of firms
abbrev pub document_in : Command → Listed → Items → Data → Result DocumentData Stop
document_in command listed items top = do
  content ← with_names listed.names (content_of command listed items top)
  Ok (record { names = listed.names; firms = content.0; ends = listed.ends; extra = content.1 })

unfoldable pub document_of : Command → Data → Result DocumentData Stop
document_of command top = do
  network ← listed_of top
  document_in command network.0 network.1 top

-- the reading of bytes
unfoldable pub reading_of : Command → List ℕ → Result DocumentData Stop
reading_of command bytes = do
  top ← with_names no_names (wanted NotJson [] (json_of bytes))
  document_of command top
