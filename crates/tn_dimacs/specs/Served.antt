-- Which problems are served, and their arcs as links.
use Rattle.std.specs.Prelude.{◌≡◌, ◌≢◌, ◌⊎◌, ℕ, ◌<◌, ◌≤◌, ℤ, pos, ◌+ℤ◌, List, [], ◌∷◌, length, slice_get, Some}
use Rattle.tn_base.specs.Arcs.{IsAtMost}
use Rattle.tn_cycle.specs.Widths.{most_graph_nodes}
use Rattle.tn_links.specs.declared.link.Link.{Link}
use Rattle.tn_links.specs.Flows.{IsKeptFlow}
use Rattle.tn_links.specs.Laws.{IsGreatest}
use Rattle.tn_links.specs.Links.{AreServed}
use Rattle.tn_links.specs.Widths.{most_each, most_links, most_units}
use Rattle.tn_dimacs.specs.declared.problem.Arc.{Arc}

-- no unit costs much
abbrev pub AreCheap : List Arc → Type 0
AreCheap arcs = (j : ℕ) (arc : Arc) → slice_get arcs j ≡ Some arc → IsAtMost arc.cost most_each

-- an arc between two of so many nodes, over which not too many units flow
pub record IsArc (nodes : ℕ) (arc : Arc) : Type 0 where
  pub tail_inside : arc.tail < nodes
  pub head_inside : arc.head < nodes
  pub apart : arc.tail ≢ arc.head
  pub few_units : arc.capacity ≤ most_units

-- two arcs join the same two nodes
abbrev pub JoinSame : Arc → Arc → Type 0
JoinSame a b = ((a.tail ≡ b.tail) × (a.head ≡ b.head)) ⊎ ((a.tail ≡ b.head) × (a.head ≡ b.tail))

-- arcs between so many nodes, of which no two join the same two nodes, and for which there is room
pub record IsServed (nodes : ℕ) (arcs : List Arc) : Type 0 where
  pub some_nodes : 1 ≤ nodes
  pub few_nodes : nodes ≤ most_graph_nodes
  pub few : length arcs ≤ most_links
  pub cheap : AreCheap arcs
  pub each : (j : ℕ) (arc : Arc) → slice_get arcs j ≡ Some arc → IsArc nodes arc
  pub single : (i j : ℕ) (a b : Arc) → slice_get arcs i ≡ Some a → slice_get arcs j ≡ Some b → JoinSame a b → i ≡ j

-- a link whose units gain what those of the arc don't cost
pub record IsLinkOf (arc : Arc) (link : Link) : Type 0 where
  pub tail : link.tail ≡ arc.tail
  pub head : link.head ≡ arc.head
  pub back : link.back ≡ 0
  pub each : ℤ
  pub steps : link.steps.items ≡ record { units = arc.capacity; each = each } ∷ []
  pub gains : each +ℤ arc.cost ≡ pos 0

-- each link is that of its arc
pub record AreLinksOf (arcs : List Arc) (links : List Link) : Type 0 where
  pub one_each : length links ≡ length arcs
  pub all : (j : ℕ) (arc : Arc) (link : Link) → slice_get arcs j ≡ Some arc → slice_get links j ≡ Some link
      → IsLinkOf arc link

-- links that can be searched
pub record AreSearched (nodes : ℕ) (links : List Link) : Type 0 where
  pub some_nodes : 1 ≤ nodes
  pub served : AreServed nodes links

-- a kept flow than which none gains more
pub record IsBest (links : List Link) (levels : List ℕ) : Type 0 where
  pub few : length links ≤ most_links
  pub kept : IsKeptFlow links levels
  pub greatest : IsGreatest links levels
