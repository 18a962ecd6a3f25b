-- The head of a document: its limits, and the trades that are listed, with their names.
use Rattle.std.specs.Prelude.{◌≡◌, List, length, ◌≤◌}
use Rattle.tn_model.specs.Limits.{AreLimits}
use Rattle.tn_model.specs.declared.limits.Limits.{Limits}
use Rattle.tn_model.specs.declared.ends.Ends.{Ends}
use Rattle.tn_names.specs.Names.{NameLists}
pub use Rattle.tn_model.specs.InOrder.{side_in, ComesNext, AreInOrder}
unfoldable pub use Rattle.tn_model.specs.InOrder.{sides_of}

-- the limits of the document's version, the names that are known, and the ends of the trades among them
pub record Listed : Type 0 where
  pub limits : Limits
  pub names : NameLists
  pub ends : List Ends

-- names and ends are of the same trades, in order, and no more than the limits allow, which are those of a version
pub record AreTrades (listed : Listed) : Type 0 where
  pub limits : AreLimits listed.limits
  pub few_firms : length listed.names.firms ≤ listed.limits.firms
  pub named : length listed.names.trades ≡ length listed.ends
  pub few : length listed.ends ≤ listed.limits.trades
  pub order : AreInOrder (length listed.names.firms) listed.ends
