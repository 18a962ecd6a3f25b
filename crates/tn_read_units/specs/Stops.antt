-- What holds of every document of units that is read, and of every fault, in words that know nothing of the reading.
use Rattle.std.specs.Prelude.{◌≡◌, Ok, Err}
use Rattle.serde_json.specs.Data.{Data}
use Rattle.tn_names.specs.Names.{IsNameList}
use Rattle.tn_read_head.specs.Beside.{IsStop, Stop}
use Rattle.tn_read_units.specs.Firms.{UnitDocument, document_of}

-- different names that keep the rule
pub record IsNamedDocument (doc : UnitDocument) : Type 0 where
  pub firm_names : IsNameList doc.head.names.firms
  pub trade_names : IsNameList doc.head.names.trades

-- every document that is read is so
abbrev pub UnitDocumentsAreNamed : Type 0
UnitDocumentsAreNamed = (top : Data) (doc : UnitDocument) → document_of top ≡ Ok doc → IsNamedDocument doc

-- wherever reading stops, its fault and the names beside it keep the rules of a stop
abbrev pub UnitFaultsAreSayable : Type 0
UnitFaultsAreSayable = (top : Data) (stop : Stop) → document_of top ≡ Err stop → IsStop stop
