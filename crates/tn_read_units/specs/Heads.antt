-- The head of a document of units: the names, and the trades with their units.
use Rattle.std.specs.Prelude.{◌≡◌, ℕ, ◌≤◌, nat_le, [], ◌∷◌, List, length, codes, All, ◌==◌, Some, option_and_then, Result, Ok}
use Rattle.std.specs.List.{sum_by}
use Rattle.serde_json.specs.Data.{Data, Items}
use Rattle.serde_json.specs.Find.{get, as_number, as_u64}
use Rattle.tn_said.specs.declared.fault.FaultKind.TheVariants.{Limit, Shape}
use Rattle.tn_said.specs.declared.place.PlaceStep.TheVariants.{Key}
use Rattle.tn_said.specs.declared.place.Word.TheVariants.{Version, Firms, Trades}
use Rattle.tn_said.specs.declared.said.Fault.{Fault}
use Rattle.tn_names.specs.Names.{no_names}
use Rattle.tn_counts.specs.Widths.{most_market_units, most_unit_firms, most_unit_trades}
use Rattle.tn_counts.specs.declared.trade.UnitTrade.{UnitTrade}
use Rattle.tn_read_shapes.specs.Reading.{◌>>=◌, each, holds, wanted}
use Rattle.tn_read_shapes.specs.Shapes.{few_at, object_of}
use Rattle.tn_read_shapes.specs.declared.members.ObjectKind.TheVariants.{Top}
use Rattle.tn_read_head.specs.Beside.{Stop, with_names}
use Rattle.tn_read_head.specs.Naming.{one_firm_name}
use Rattle.tn_read_units.specs.Limits.{unit_version}
use Rattle.tn_read_units.specs.Trades.{IsUnitTrade, UnitTrades, one_trade}

-- the units of all trades
abbrev pub all_units : List UnitTrade → ℕ
all_units trades = sum_by (λ trade. trade.units) trades

-- names and trades are of the same trades, within the limits
pub record AreUnitTrades (head : UnitTrades) : Type 0 where
  pub few_firms : length head.names.firms ≤ most_unit_firms
  pub named : length head.names.trades ≡ length head.trades
  pub few : length head.trades ≤ most_unit_trades
  pub few_units : all_units head.trades ≤ most_market_units
  pub each : All (IsUnitTrade (length head.names.firms)) head.trades

-- the version is that of documents of units
unfoldable pub version_at : Data → Result (Unit {0}) Fault
version_at top = do
  version ← wanted Shape (Key Version ∷ []) (option_and_then as_u64
      (option_and_then as_number (get (codes "version") top)))
  holds Shape (Key Version ∷ []) (version == unit_version)

-- the trades of all items, whose units together aren't too many
unfoldable pub trades_of : UnitTrades → Items → Result UnitTrades Stop
trades_of before items = do
  read ← each one_trade before items
  few ← with_names read.names (holds Limit (Key Trades ∷ []) (nat_le (all_units read.trades) most_market_units))
  Ok read

-- the head, and the list of the firms
unfoldable pub head_of : Data → Result (UnitTrades × Items) Stop
head_of top = do
  object ← with_names no_names (object_of Top [] (Some top))
  version ← with_names no_names (version_at top)
  firms ← with_names no_names (few_at most_unit_firms (Key Firms ∷ []) (get (codes "firms") top))
  names ← each one_firm_name no_names firms
  trades ← with_names names (few_at most_unit_trades (Key Trades ∷ []) (get (codes "trades") top))
  head ← trades_of (record { names = names; trades = [] }) trades
  Ok (head, firms)
