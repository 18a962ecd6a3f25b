-- References: texts that name a firm, a trade, or an own trade of a firm.
use Rattle.std.specs.Prelude.{ℕ, ◌++◌, [], ◌∷◌, List, slice_get, not, ◌==◌, if◌then◌else◌, Option, Some, None, option_and_then, Result, Ok}
use Rattle.serde_json.specs.Data.{Data}
use Rattle.tn_base.specs.Sets.{has, toggle, size}
use Rattle.tn_base.specs.declared.side.Side.{Side}
use Rattle.tn_base.specs.declared.side.Side.TheVariants.{Buy, Sell}
use Rattle.tn_said.specs.declared.fault.FaultKind.TheVariants.{UnknownFirm, UnknownTrade, NotOwnTrade, SameTrade}
use Rattle.tn_model.specs.declared.ends.Ends.{Ends}
use Rattle.tn_said.specs.declared.place.PlaceStep.{PlaceStep}
use Rattle.tn_said.specs.declared.place.PlaceStep.TheVariants.{Index, Key}
use Rattle.tn_said.specs.declared.place.Word.TheVariants.{Firms}
use Rattle.tn_said.specs.declared.said.Fault.{Fault}
use Rattle.tn_names.specs.Names.{number_of}
use Rattle.tn_read_references.specs.declared.own_lists.PartAt.{PartAt}
use Rattle.tn_read_references.specs.declared.own_lists.PartAt.TheVariants.{Item, Member, MemberItem}
use Rattle.tn_read_shapes.specs.Reading.{◌>>=◌, each, wanted, holds}
use Rattle.tn_read_shapes.specs.Shapes.{text_at, list_at}
use Rattle.tn_read_references.specs.Ordered.{Listed}
pub use Rattle.tn_model.specs.InOrder.{position_in}

abbrev pub firm_place : ℕ → List PlaceStep
firm_place f = Key Firms ∷ Index f ∷ []

-- the firm that a value names
unfoldable pub firm_at : List (List ℕ) → List PlaceStep → Option Data → Result ℕ Fault
firm_at firms place value = do
  name ← text_at place value
  wanted UnknownFirm place (number_of firms name)

-- the trade that a reference names
unfoldable pub trade_at : List (List ℕ) → List PlaceStep → Data → Result ℕ Fault
trade_at trades place value = do
  name ← text_at place (Some value)
  wanted UnknownTrade place (number_of trades name)

-- a trade that a reference names, and that isn't a member of the set yet
unfoldable pub new_trade : List (List ℕ) → List PlaceStep → ℕ → Data → Result ℕ Fault
new_trade trades place named value = do
  t ← trade_at trades place value
  new ← holds SameTrade place (not (has named t))
  Ok t

-- the same on one side of the trade alone, where a side is given
abbrev pub position_on : Option Side → ℕ → Ends → Option ℕ
position_on None f trade = position_in f trade
position_on (Some Sell) f trade = if trade.seller == f then Some trade.at_seller else None
position_on (Some Buy) f trade = if trade.buyer == f then Some trade.at_buyer else None

-- the position of the own trade of firm f that a reference names, on one side if it is given
unfoldable pub own_position : Listed → ℕ → Option Side → List PlaceStep → Data → Result ℕ Fault
own_position listed f side place value = do
  t ← trade_at listed.names.trades place value
  wanted NotOwnTrade place (option_and_then (position_on side f) (slice_get listed.ends t))

-- such a position that isn't a member of the bundle yet
unfoldable pub new_own : Listed → ℕ → Option Side → List PlaceStep → ℕ → Data → Result ℕ Fault
new_own listed f side place bundle value = do
  k ← own_position listed f side place value
  new ← holds SameTrade place (not (has bundle k))
  Ok k

-- the bundle with one more own trade; the index of a reference is the count of those before it
unfoldable pub own_reference : Listed → ℕ → List PlaceStep → ℕ → Data → Result ℕ Fault
own_reference listed f place bundle value = do
  k ← new_own listed f None (place ++ Index (size bundle) ∷ []) bundle value
  Ok (toggle bundle k)

-- where a list of references to own trades of firm f is
abbrev pub part_place : ℕ → PartAt → List PlaceStep
part_place f (Item list item part) = Key Firms ∷ Index f ∷ list ∷ Index item ∷ part ∷ []
part_place f (Member part member) = part ∷ member ∷ []
part_place f (MemberItem part member item index) = part ∷ member ∷ Index item ∷ Index index ∷ []

-- the bundle of own trades that a list of references names
unfoldable pub bundle_at : Listed → ℕ → List PlaceStep → Option Data → Result ℕ Fault
bundle_at listed f place value = do
  references ← list_at place value
  each (own_reference listed f place) 0 references
