-- The kinds of firms, and what holds of a firm by its kind.
use Rattle.std.specs.Prelude.{ℕ, ◌++◌, [], ◌∷◌, List, length, codes, nat_le, if◌then◌else◌, Option, Some, None, Result}
use Rattle.std.specs.Str.{bytes_eq}
use Rattle.serde_json.specs.Data.{Data}
use Rattle.serde_json.specs.Find.{get}
use Rattle.tn_said.specs.declared.fault.FaultKind.TheVariants.{Shape, Limit}
use Rattle.tn_model.specs.Limits.{most_own_of_table, most_own_trades}
use Rattle.tn_model.specs.declared.limits.Limits.{Limits}
use Rattle.tn_said.specs.declared.place.PlaceStep.TheVariants.{Key}
use Rattle.tn_said.specs.declared.place.Word.TheVariants.{Kind}
use Rattle.tn_said.specs.declared.said.Fault.{Fault}
use Rattle.tn_read_shapes.specs.declared.members.FirmKind.{FirmKind}
use Rattle.tn_read_shapes.specs.declared.members.FirmKind.TheVariants.{Table, Laminar, Middleman, Dealer}
use Rattle.tn_read_shapes.specs.declared.members.ObjectKind.TheVariants.{Firm}
use Rattle.tn_read_shapes.specs.Reading.{◌>>=◌, wanted, holds}
use Rattle.tn_read_shapes.specs.Shapes.{text_at, object_of}
use Rattle.tn_read_references.specs.Ordered.{Listed, sides_of}
use Rattle.tn_read_references.specs.References.{firm_place}

-- the kind that a text names
abbrev pub kind_named : List ℕ → Option FirmKind
kind_named text = if bytes_eq text (codes "table") then Some Table
    else (if bytes_eq text (codes "laminar") then Some Laminar
    else (if bytes_eq text (codes "middleman") then Some Middleman
    else (if bytes_eq text (codes "dealer") then Some Dealer else None)))

-- the kind of firm f
unfoldable pub firm_kind_of : ℕ → Data → Result FirmKind Fault
firm_kind_of f firm = do
  kind ← text_at (firm_place f ++ Key Kind ∷ []) (get (codes "kind") firm)
  wanted Shape (firm_place f ++ Key Kind ∷ []) (kind_named kind)

-- the most own trades of a firm of a kind
abbrev pub most_own_of_kind : Limits → FirmKind → ℕ
most_own_of_kind limits Table = limits.own_of_table
most_own_of_kind limits Laminar = limits.own
most_own_of_kind limits Middleman = limits.own
most_own_of_kind limits Dealer = limits.own

-- how many own trades there is room for in a firm of a kind, whatever the version
abbrev pub room_for : FirmKind → ℕ
room_for Table = most_own_of_table
room_for Laminar = most_own_trades
room_for Middleman = most_own_trades
room_for Dealer = most_own_trades

-- firm f has the members of its kind alone, and few own trades
unfoldable pub firm_frame_of : Listed → ℕ → FirmKind → Data → Result (Unit {0}) Fault
firm_frame_of listed f kind firm = do
  object ← object_of (Firm kind) (firm_place f) (Some firm)
  holds Limit (firm_place f) (nat_le (length (sides_of listed.ends f)) (most_own_of_kind listed.limits kind))
