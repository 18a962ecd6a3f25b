-- The arrangement of a document whose trades have units: how many units of each trade go, and a price of a unit of each.
use Rattle.std.specs.Prelude.{◌≡◌, ℕ, [], ◌∷◌, ℤ, List, codes, get_or, length, map, unsigned_abs, All, Some, Result, Ok}
use Rattle.serde_json.specs.Data.{Data}
use Rattle.serde_json.specs.Find.{get}
use Rattle.tn_base.specs.Arcs.{IsAtMost}
use Rattle.tn_counts.specs.Counts.{AreCounts}
use Rattle.tn_counts.specs.Widths.{most_unit_price}
use Rattle.tn_counts.specs.declared.trade.UnitTrade.{UnitTrade}
use Rattle.tn_said.specs.declared.fault.FaultKind.TheVariants.{Shape}
use Rattle.tn_said.specs.declared.place.PlaceStep.TheVariants.{Key}
use Rattle.tn_said.specs.declared.place.Word.TheVariants.{Arrangement}
use Rattle.tn_said.specs.declared.said.Fault.{Fault}
use Rattle.tn_read_shapes.specs.declared.members.ObjectKind.TheVariants.{Arrangement as ArrangementObject}
use Rattle.tn_read_shapes.specs.Reading.{◌>>=◌, wanted}
use Rattle.tn_read_shapes.specs.Shapes.{list_at, object_of}
use Rattle.tn_read_unit_parts.specs.Entries.{numbered, numbers_place, prices_of}
use Rattle.tn_read_unit_parts.specs.declared.entries.EntryNumbers.TheVariants.{Units, Prices}
use Rattle.tn_read_units.specs.Trades.{UnitTrades}

-- the part, and how many units of each trade go
unfoldable pub on_of : UnitTrades → Data → Result (Data × List ℕ) Fault
on_of head top = do
  part ← wanted Shape (Key Arrangement ∷ []) (get (codes "arrangement") top)
  object ← object_of ArrangementObject (Key Arrangement ∷ []) (Some part)
  entries ← list_at (numbers_place Units) (get (codes "on") part)
  given ← numbered head Units entries
  Ok (part, map unsigned_abs given.numbers)

-- the counts alone: the prices are unread, and may be absent
unfoldable pub counts_on_of : UnitTrades → Data → Result (List ℕ) Fault
counts_on_of head top = do
  part ← on_of head top
  Ok part.1

pub record UnitArranged : Type 0 where
  pub counts : List ℕ
  pub prices : List ℤ

unfoldable pub unit_arrangement_of : UnitTrades → Data → Result UnitArranged Fault
unit_arrangement_of head top = do
  part ← on_of head top
  entries ← list_at (numbers_place Prices) (get (codes "prices") part.0)
  prices ← prices_of head entries
  Ok (record { counts = part.1; prices = prices })

-- a count for each trade, at most its units
pub record AreCountsOf (trades : List UnitTrade) (counts : List ℕ) : Type 0 where
  pub counted : length counts ≡ length trades
  pub within : AreCounts trades (λ t. get_or counts t 0)

-- and a price for each, as large as one may be
pub record IsUnitArrangement (trades : List UnitTrade) (part : UnitArranged) : Type 0 where
  pub counts : AreCountsOf trades part.counts
  pub priced : length part.prices ≡ length trades
  pub small : All (λ price. IsAtMost price most_unit_price) part.prices
