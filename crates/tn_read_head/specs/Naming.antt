-- The names of firms and of trades, and the two ends of each trade.
use Rattle.std.specs.Prelude.{ℕ, List, codes, Option, Some, Result, Ok, ◌++◌, [], ◌∷◌, length, not, ◌==◌}
use Rattle.tn_said.specs.declared.fault.FaultKind.TheVariants.{BadName, SameName, SelfTrade}
use Rattle.tn_said.specs.declared.place.PlaceStep.{PlaceStep}
use Rattle.tn_said.specs.declared.said.Fault.{Fault}
use Rattle.serde_json.specs.Data.{Data}
use Rattle.tn_names.specs.Names.{is_name, NameLists, has_name, with_firm, with_trade}
use Rattle.tn_read_shapes.specs.Reading.{◌>>=◌, holds}
use Rattle.serde_json.specs.Find.{get}
use Rattle.tn_model.specs.declared.ends.Ends.{Ends}
use Rattle.tn_said.specs.declared.place.PlaceStep.TheVariants.{Index, Key}
use Rattle.tn_said.specs.declared.place.Word.TheVariants.{Firms, Trades, Name, Seller, Buyer}
use Rattle.tn_read_shapes.specs.declared.members.ObjectKind.TheVariants.{Trade as TradeObject}
use Rattle.tn_read_head.specs.Beside.{Stop, with_names}
use Rattle.tn_read_shapes.specs.Shapes.{text_at, object_at, object_of}
use Rattle.tn_read_references.specs.Ordered.{sides_of}
use Rattle.tn_read_references.specs.References.{firm_at}

-- a text that keeps the rule for names
unfoldable pub name_at : List PlaceStep → Option Data → Result (List ℕ) Fault
name_at place value = do
  name ← text_at place value
  named ← holds BadName place (is_name name)
  Ok name

-- a name that isn't among the names yet
unfoldable pub new_name : List (List ℕ) → List PlaceStep → Option Data → Result (List ℕ) Fault
new_name names place value = do
  name ← name_at place value
  new ← holds SameName place (not (has_name names name))
  Ok name

-- one more firm; its number is the count of those before it
unfoldable pub firm_name : NameLists → Data → Result NameLists Fault
firm_name names firm = do
  object ← object_at (Key Firms ∷ Index (length names.firms) ∷ []) (Some firm)
  name ← new_name names.firms (Key Firms ∷ Index (length names.firms) ∷ Key Name ∷ []) (get (codes "name") firm)
  Ok (with_firm names name)

abbrev pub one_firm_name : NameLists → Data → Result NameLists Stop
one_firm_name names firm = with_names names (firm_name names firm)

-- one more trade; its number is the count of those before it
unfoldable pub trade_name : NameLists → Data → Result NameLists Fault
trade_name names trade = do
  object ← object_of TradeObject (Key Trades ∷ Index (length names.trades) ∷ []) (Some trade)
  name ← new_name names.trades (Key Trades ∷ Index (length names.trades) ∷ Key Name ∷ []) (get (codes "name") trade)
  Ok (with_trade names name)

-- the two ends of trade t, which comes after others
unfoldable pub ends_at : List (List ℕ) → List Ends → ℕ → Data → Result Ends Fault
ends_at firms before t trade = do
  seller ← firm_at firms (Key Trades ∷ Index t ∷ Key Seller ∷ []) (get (codes "seller") trade)
  buyer ← firm_at firms (Key Trades ∷ Index t ∷ Key Buyer ∷ []) (get (codes "buyer") trade)
  apart ← holds SelfTrade (Key Trades ∷ Index t ∷ []) (not (seller == buyer))
  Ok (record {
    seller = seller;
    buyer = buyer;
    at_seller = length (sides_of before seller);
    at_buyer =
        length (sides_of before buyer);
  })

-- the names so far, and the ends of the trades so far
pub record NamedTrades : Type 0 where
  pub names : NameLists
  pub ends : List Ends

-- a trade is named before its ends are looked at
unfoldable pub one_trade : NamedTrades → Data → Result NamedTrades Stop
one_trade before trade = do
  names ← with_names before.names (trade_name before.names trade)
  ends ← with_names names (ends_at names.firms before.ends (length before.ends) trade)
  Ok (record { names = names; ends = before.ends ++ ends ∷ [] })
