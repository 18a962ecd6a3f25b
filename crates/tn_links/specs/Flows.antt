-- Flows over links, what they bring to each node, and what they gain.
use Rattle.std.specs.Prelude.{◌≡◌, ℕ, ◌≤◌, ℤ, pos, ◌+ℤ◌, ◌-ℤ◌, List, [], ◌∷◌, length, slice_get, ◌==◌, if◌then◌else◌, Some}
use Rattle.tn_links.specs.declared.link.Link.{Link}
use Rattle.tn_links.specs.Links.{rise, room}

-- the units that flow from the tail to the head at a level; where it is below 0, so many flow back
abbrev pub flow_at : Link → ℕ → ℤ
flow_at link level = pos level -ℤ pos link.back

-- what a flow over a link brings to a node
abbrev pub brought : Link → ℤ → ℕ → ℤ
brought link flow v = (if v == link.head then flow else pos 0) -ℤ (if v == link.tail then flow else pos 0)

-- what flows into a node, less what flows out
abbrev pub balance : List Link → List ℕ → ℕ → ℤ
balance [] levels v = pos 0
balance (link ∷ links) [] v = pos 0
balance (link ∷ links) (level ∷ levels) v = brought link (flow_at link level) v +ℤ balance links levels v

-- what the flow over a link gains at a level
abbrev pub gain : Link → ℕ → ℤ
gain link level = rise link.steps.items level -ℤ rise link.steps.items link.back

-- what all flows gain
abbrev pub total_gain : List Link → List ℕ → ℤ
total_gain [] levels = pos 0
total_gain (link ∷ links) [] = pos 0
total_gain (link ∷ links) (level ∷ levels) = gain link level +ℤ total_gain links levels

-- no level is above the units that its link's steps have
abbrev pub AreWithin : List Link → List ℕ → Type 0
AreWithin links levels = (j level : ℕ) (link : Link) → slice_get links j ≡ Some link → slice_get levels j ≡ Some level
    → level ≤ room link.steps.items

-- each link has a level, and at each node as much flows in as out
pub record IsKeptFlow (links : List Link) (levels : List ℕ) : Type 0 where
  pub one_each : length levels ≡ length links
  pub within : AreWithin links levels
  pub kept : (v : ℕ) → balance links levels v ≡ pos 0
