-- References to the trades of a firm, and the trades of a set.
use Rattle.std.specs.Prelude.{ℕ, ◌++◌, [], ◌∷◌, List, slice_get, not, ◌==◌, if◌then◌else◌, Option, Some, None, option_and_then, Result, Ok}
use Rattle.serde_json.specs.Data.{Data}
use Rattle.tn_base.specs.Sets.{has, size, toggle}
use Rattle.tn_base.specs.declared.side.Side.{Side}
use Rattle.tn_base.specs.declared.side.Side.TheVariants.{Buy, Sell}
use Rattle.tn_said.specs.declared.fault.FaultKind.TheVariants.{NotOwnTrade, SameTrade}
use Rattle.tn_said.specs.declared.place.PlaceStep.{PlaceStep}
use Rattle.tn_said.specs.declared.place.PlaceStep.TheVariants.{Index}
use Rattle.tn_said.specs.declared.said.Fault.{Fault}
use Rattle.tn_counts.specs.declared.trade.UnitTrade.{UnitTrade}
use Rattle.tn_read_shapes.specs.Reading.{◌>>=◌, each, holds, wanted}
use Rattle.tn_read_shapes.specs.Shapes.{list_at}
use Rattle.tn_read_references.specs.References.{trade_at}
use Rattle.tn_read_units.specs.Trades.{UnitTrades}

-- on which side of a trade a firm stands
abbrev pub side_at : ℕ → UnitTrade → Option Side
side_at f trade = if trade.seller == f then Some Sell else (if trade.buyer == f then Some Buy else None)

-- the trade of firm f that a reference names, and on which side of it the firm stands
unfoldable pub own_trade : UnitTrades → ℕ → List PlaceStep → Data → Result (ℕ × Side) Fault
own_trade head f place value = do
  t ← trade_at head.names.trades place value
  side ← wanted NotOwnTrade place (option_and_then (side_at f) (slice_get head.trades t))
  Ok (t, side)

-- the trades that references have named so far: the set of them, and the list
pub record Members : Type 0 where
  pub named : ℕ
  pub trades : List ℕ

-- one more trade of firm f, which no reference before names; the index of a reference is the count of those before it
unfoldable pub one_member : UnitTrades → ℕ → List PlaceStep → Members → Data → Result Members Fault
one_member head f place members value = do
  own ← own_trade head f (place ++ Index (size members.named) ∷ []) value
  new ← holds SameTrade (place ++ Index (size members.named) ∷ []) (not (has members.named own.0))
  Ok (record { named = toggle members.named own.0; trades = members.trades ++ own.0 ∷ [] })

-- the trades of firm f that a list of references names
unfoldable pub members_at : UnitTrades → ℕ → List PlaceStep → Option Data → Result Members Fault
members_at head f place value = do
  references ← list_at place value
  each (one_member head f place) (record { named = 0; trades = [] }) references
