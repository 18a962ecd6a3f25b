-- The graph of a flow with lots of so many units.
use Rattle.std.specs.Prelude.{◌≡◌, ℕ, ◌+◌, ◌-◌, ◌*◌, ◌≤◌, min, nat_le, ℤ, ◌-ℤ◌, List, [], ◌∷◌, ◌==◌, if◌then◌else◌, slice_get, Option, Some, None}
use Rattle.tn_base.specs.Widths.{most_cost}
use Rattle.tn_links.specs.declared.link.Link.{Link}
use Rattle.tn_links.specs.Links.{AddAtMost, joins, rise, room}
use Rattle.tn_links.specs.Widths.{most_level, most_lot}

-- what a lot more over a link costs, none where there is no room
abbrev pub more_cost : Link → ℕ → ℕ → Option ℤ
more_cost link level lot = if nat_le (level + lot) (room link.steps.items)
    then Some (rise link.steps.items level -ℤ rise link.steps.items (level + lot)) else None

-- what a lot less costs, none where there isn't as much
abbrev pub less_cost : Link → ℕ → ℕ → Option ℤ
less_cost link level lot = if nat_le lot level
    then Some (rise link.steps.items level -ℤ rise link.steps.items (level - lot)) else None

-- what a lot over a link from one of its ends costs
abbrev pub lot_cost : Link → ℕ → ℕ → ℕ → Option ℤ
lot_cost link level lot u = if link.tail == u then more_cost link level lot else less_cost link level lot

-- the arc between two nodes is a lot over the link that joins them
abbrev pub link_arc : List Link → List ℕ → ℕ → ℕ → ℕ → Option ℤ
link_arc [] levels lot u v = None
link_arc (link ∷ links) [] lot u v = None
link_arc (link ∷ links) (level ∷ levels) lot u v =
    if joins link u v then lot_cost link level lot u else link_arc links levels lot u v

-- no unit of the links adds more than a limit, in size
abbrev pub LinksAddAtMost : ℕ → List Link → Type 0
LinksAddAtMost limit links =
    (j : ℕ) (link : Link) → slice_get links j ≡ Some link → AddAtMost limit link.steps.items

-- a lot over no link costs more than an arc of a graph may
pub record AreLight (links : List Link) (lot : ℕ) : Type 0 where
  pub few : lot ≤ most_lot
  pub limit : ℕ
  pub each : LinksAddAtMost limit links
  pub light : lot * limit ≤ most_cost

-- the level of a link after a lot from one of its ends
abbrev pub level_after : Link → ℕ → ℕ → ℕ → ℕ
level_after link level lot u = if link.tail == u then min (level + lot) most_level else level - lot

-- the levels after a lot from u to v
abbrev pub stepped : List Link → ℕ → List ℕ → ℕ → ℕ → List ℕ
stepped [] lot levels u v = levels
stepped (link ∷ links) lot [] u v = []
stepped (link ∷ links) lot (level ∷ levels) u v =
    if joins link u v then level_after link level lot u ∷ levels else level ∷ stepped links lot levels u v

-- the levels after a lot along a walk
abbrev pub pushed : List Link → ℕ → List ℕ → ℕ → List ℕ → ℕ → List ℕ
pushed links lot levels u [] w = stepped links lot levels u w
pushed links lot levels u (v ∷ vs) w = pushed links lot (stepped links lot levels u v) v vs w
