-- Links between nodes, and what their units gain.
use Rattle.std.specs.Prelude.{◌≡◌, ◌≢◌, ℕ, ◌+◌, ◌-◌, ◌<◌, ◌≤◌, min, ℤ, pos, ◌+ℤ◌, ◌*ℤ◌, ◌≤ℤ◌, List, [], ◌∷◌, length, slice_get, Bool, true, ◌==◌, ◌&&◌, ◌||◌, Some}
use Rattle.tn_base.specs.Arcs.{IsAtMost}
use Rattle.tn_links.specs.declared.link.Link.{Link}
use Rattle.tn_links.specs.declared.link.Step.{Step}
use Rattle.tn_cycle.specs.Widths.{most_graph_nodes}
use Rattle.tn_links.specs.Widths.{most_each, most_links, most_units}

-- how many units the steps have
abbrev pub room : List Step → ℕ
room [] = 0
room (step ∷ steps) = step.units + room steps

-- what the first units of the steps add
abbrev pub rise : List Step → ℕ → ℤ
rise [] n = pos 0
rise (step ∷ steps) n = step.each *ℤ pos (min n step.units) +ℤ rise steps (n - step.units)

-- later units add no more
abbrev pub AreFalling : List Step → Type 0
AreFalling steps = (i k : ℕ) (a b : Step) → i < k → slice_get steps i ≡ Some a → slice_get steps k ≡ Some b
    → b.each ≤ℤ a.each

-- no unit adds more than a limit, in size
abbrev pub AddAtMost : ℕ → List Step → Type 0
AddAtMost limit steps = (i : ℕ) (step : Step) → slice_get steps i ≡ Some step → IsAtMost step.each limit

-- no unit adds much
abbrev pub AreSlight : List Step → Type 0
AreSlight steps = AddAtMost most_each steps

-- the steps make a concave gain, with room for the level of no flow
pub record HasSteps (back : ℕ) (steps : List Step) : Type 0 where
  pub back_within : back ≤ room steps
  pub few_units : room steps ≤ most_units
  pub falling : AreFalling steps
  pub slight : AreSlight steps

-- a link between two nodes, whose gain is concave
pub record IsLink (nodes : ℕ) (link : Link) : Type 0 where
  pub tail_inside : link.tail < nodes
  pub head_inside : link.head < nodes
  pub apart : link.tail ≢ link.head
  pub steps : HasSteps link.back link.steps.items

-- the two ends of a link are these two nodes
abbrev pub joins : Link → ℕ → ℕ → Bool
joins link u v = (link.tail == u && link.head == v) || (link.tail == v && link.head == u)

-- all are links between so many nodes
abbrev pub AreLinks : ℕ → List Link → Type 0
AreLinks nodes links = (j : ℕ) (link : Link) → slice_get links j ≡ Some link → IsLink nodes link

-- no two links join the same two nodes
abbrev pub AreSingle : List Link → Type 0
AreSingle links = (i j u v : ℕ) (a b : Link) → slice_get links i ≡ Some a → slice_get links j ≡ Some b
    → joins a u v ≡ true → joins b u v ≡ true → i ≡ j

-- links of which no two join the same two nodes
pub record ArePlain (nodes : ℕ) (links : List Link) : Type 0 where
  pub each : AreLinks nodes links
  pub single : AreSingle links

-- there is room for the links and the nodes
pub record AreServed (nodes : ℕ) (links : List Link) : Type 0 where
  pub plain : ArePlain nodes links
  pub few : length links ≤ most_links
  pub few_nodes : nodes ≤ most_graph_nodes
