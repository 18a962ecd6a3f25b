-- Trades in order: each stands at a firm after that firm's trades before it.
use Rattle.std.specs.Prelude.{◌≡◌, ◌≢◌, ℕ, ◌<◌, List, length, take, slice_get, ◌==◌, if◌then◌else◌, Option, Some, None}
use Rattle.std.specs.List.{filter_map}
use Rattle.tn_base.specs.declared.side.Side.{Side}
use Rattle.tn_base.specs.declared.side.Side.TheVariants.{Buy, Sell}
use Rattle.tn_model.specs.declared.ends.Ends.{Ends}

-- the side on which a firm stands in a trade, if it has a part in it
abbrev pub side_in : ℕ → Ends → Option Side
side_in f trade = if trade.seller == f then Some Sell else (if trade.buyer == f then Some Buy else None)

-- the sides on which a firm stands in its own trades, which have their positions in this order
unfoldable pub sides_of : List Ends → ℕ → List Side
sides_of trades f = filter_map (side_in f) trades

-- where a trade stands among the own trades of firm f
abbrev pub position_in : ℕ → Ends → Option ℕ
position_in f trade = if trade.seller == f then Some trade.at_seller
    else (if trade.buyer == f then Some trade.at_buyer else None)

-- a trade after others has two different firms, and its positions count the trades of these firms before it
pub record ComesNext (firms : ℕ) (before : List Ends) (trade : Ends) : Type 0 where
  pub seller : trade.seller < firms
  pub buyer : trade.buyer < firms
  pub apart : trade.seller ≢ trade.buyer
  pub at_seller : trade.at_seller ≡ length (sides_of before trade.seller)
  pub at_buyer : trade.at_buyer ≡ length (sides_of before trade.buyer)

-- so does each trade of a list
abbrev pub AreInOrder : ℕ → List Ends → Type 0
AreInOrder firms trades = (t : ℕ) (trade : Ends) → slice_get trades t ≡ Some trade
    → ComesNext firms (take t trades) trade
