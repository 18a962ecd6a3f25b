-- The arrangement: the trades that are on, and a price for each trade.
use Rattle.std.specs.Prelude.{◌≡◌, ℕ, ◌^◌, ◌<◌, [], ◌∷◌, ℤ, List, length, codes, All, Some, Result, Ok}
use Rattle.serde_json.specs.Data.{Data}
use Rattle.serde_json.specs.Find.{get}
use Rattle.tn_base.specs.Arcs.{IsAtMost}
use Rattle.tn_said.specs.declared.fault.FaultKind.TheVariants.{Shape}
use Rattle.tn_model.specs.Limits.{most_price}
use Rattle.tn_said.specs.declared.place.PlaceStep.{PlaceStep}
use Rattle.tn_said.specs.declared.place.PlaceStep.TheVariants.{Key}
use Rattle.tn_said.specs.declared.place.Word.TheVariants.{Arrangement, On, Prices}
use Rattle.tn_said.specs.declared.said.Fault.{Fault}
use Rattle.tn_read_shapes.specs.declared.members.ObjectKind.TheVariants.{Arrangement as ArrangementObject}
use Rattle.tn_read_shapes.specs.Reading.{◌>>=◌, each, wanted}
use Rattle.tn_read_shapes.specs.Shapes.{list_at, object_of}
use Rattle.tn_read_references.specs.Ordered.{Listed}
use Rattle.tn_read_parts.specs.Lists.{one_on, prices_of}

abbrev pub on_place : List PlaceStep
on_place = Key Arrangement ∷ Key On ∷ []

abbrev pub prices_place : List PlaceStep
prices_place = Key Arrangement ∷ Key Prices ∷ []

-- the part, and the trades that are on
unfoldable pub on_of : List (List ℕ) → Data → Result (Data × ℕ) Fault
on_of trades top = do
  part ← wanted Shape (Key Arrangement ∷ []) (get (codes "arrangement") top)
  object ← object_of ArrangementObject (Key Arrangement ∷ []) (Some part)
  references ← list_at on_place (get (codes "on") part)
  on ← each (one_on trades on_place) 0 references
  Ok (part, on)

-- the trades that are on alone: the prices are unread, and may be absent
unfoldable pub trades_on_of : List (List ℕ) → Data → Result ℕ Fault
trades_on_of trades top = do
  part ← on_of trades top
  Ok part.1

pub record Arranged : Type 0 where
  pub on : ℕ
  pub prices : List ℤ

-- the trades that are on, and their prices within the limit of the document
unfoldable pub arrangement_of : Listed → Data → Result Arranged Fault
arrangement_of listed top = do
  part ← on_of listed.names.trades top
  entries ← list_at prices_place (get (codes "prices") part.0)
  prices ← prices_of listed.names.trades prices_place listed.limits.price entries
  Ok (record { on = part.1; prices = prices })

-- a set of so many trades, and a price for each, as large as one may be
pub record IsArrangement (trades : ℕ) (part : Arranged) : Type 0 where
  pub on : part.on < 2 ^ trades
  pub count : length part.prices ≡ trades
  pub small : All (λ z. IsAtMost z most_price) part.prices
