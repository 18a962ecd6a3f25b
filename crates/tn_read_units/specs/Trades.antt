-- Trades with units: their names, their ends and how many units each has.
use Rattle.std.specs.Prelude.{ℕ, ◌≤◌, ◌++◌, [], ◌∷◌, List, codes, length, not, ◌==◌, Some, Result, Ok}
use Rattle.serde_json.specs.Data.{Data}
use Rattle.serde_json.specs.Find.{get}
use Rattle.tn_said.specs.declared.fault.FaultKind.TheVariants.{SelfTrade}
use Rattle.tn_said.specs.declared.place.PlaceStep.TheVariants.{Index, Key}
use Rattle.tn_said.specs.declared.place.Word.TheVariants.{Trades, Name, Seller, Buyer, Units}
use Rattle.tn_said.specs.declared.said.Fault.{Fault}
use Rattle.tn_names.specs.Names.{NameLists, with_trade}
use Rattle.tn_counts.specs.Markets.{IsBetween}
use Rattle.tn_counts.specs.declared.trade.UnitTrade.{UnitTrade}
use Rattle.tn_read_shapes.specs.Reading.{◌>>=◌, holds}
use Rattle.tn_read_shapes.specs.Shapes.{object_of}
use Rattle.tn_read_shapes.specs.declared.members.ObjectKind.TheVariants.{UnitTrade as UnitTradeObject}
use Rattle.tn_read_references.specs.References.{firm_at}
use Rattle.tn_read_head.specs.Beside.{Stop, with_names}
use Rattle.tn_read_head.specs.Naming.{new_name}
use Rattle.tn_read_units.specs.Counts.{units_at}
use Rattle.tn_read_units.specs.Limits.{most_units_at_once}

-- the name of one more trade; its number is the count of those before it
unfoldable pub trade_name : NameLists → Data → Result NameLists Fault
trade_name names trade = do
  object ← object_of UnitTradeObject (Key Trades ∷ Index (length names.trades) ∷ []) (Some trade)
  name ← new_name names.trades (Key Trades ∷ Index (length names.trades) ∷ Key Name ∷ []) (get (codes "name") trade)
  Ok (with_trade names name)

-- the two ends of trade t, and its units
unfoldable pub trade_of : List (List ℕ) → ℕ → Data → Result UnitTrade Fault
trade_of firms t trade = do
  seller ← firm_at firms (Key Trades ∷ Index t ∷ Key Seller ∷ []) (get (codes "seller") trade)
  buyer ← firm_at firms (Key Trades ∷ Index t ∷ Key Buyer ∷ []) (get (codes "buyer") trade)
  apart ← holds SelfTrade (Key Trades ∷ Index t ∷ []) (not (seller == buyer))
  units ← units_at (Key Trades ∷ Index t ∷ Key Units ∷ []) (get (codes "units") trade)
  Ok (record { seller = seller; buyer = buyer; units = units })

-- the names so far, and the trades so far
pub record UnitTrades : Type 0 where
  pub names : NameLists
  pub trades : List UnitTrade

-- a trade is named before its ends are looked at
unfoldable pub one_trade : UnitTrades → Data → Result UnitTrades Stop
one_trade before trade = do
  names ← with_names before.names (trade_name before.names trade)
  next ← with_names names (trade_of names.firms (length before.trades) trade)
  Ok (record { names = names; trades = before.trades ++ next ∷ [] })

-- a trade has no more units than a trade may have
abbrev pub HasFewUnits : UnitTrade → Type 0
HasFewUnits trade = trade.units ≤ most_units_at_once

-- a trade that is read has two different firms, and some units
pub record IsUnitTrade (firms : ℕ) (trade : UnitTrade) : Type 0 where
  pub between : IsBetween firms trade
  pub some : 1 ≤ trade.units
  pub few : HasFewUnits trade
