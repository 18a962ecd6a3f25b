-- Walks in a graph by the costs of its arcs, closed walks, and numbers of the nodes that keep the arcs.
use Rattle.std.specs.Prelude.{◌≡◌, ◌≢◌, ℕ, ◌≤◌, ℤ, pos, ◌+ℤ◌, ◌≤ℤ◌, List, [], ◌∷◌, length, slice_get, All, Bool, ◌==◌, ◌&&◌, ◌||◌, if◌then◌else◌, Option, Some, None}
use Rattle.tn_base.specs.Options.{both}
use Rattle.tn_base.specs.Sets.{has}

-- the cost of the walk from u through the nodes of the list to w, none where one of its arcs isn't there
abbrev pub walk_cost : (ℕ → ℕ → Option ℤ) → ℕ → List ℕ → ℕ → Option ℤ
walk_cost arc u [] w = arc u w
walk_cost arc u (v ∷ vs) w = both (arc u v) (walk_cost arc v vs w)

-- the graph with those arcs alone whose two ends pass a test
abbrev pub arcs_among : (ℕ → Bool) → (ℕ → ℕ → Option ℤ) → ℕ → ℕ → Option ℤ
arcs_among test arc u v = if test u && test v then arc u v else None

-- whether a node is a trade of the set or the null node
abbrev pub is_admitted : ℕ → ℕ → ℕ → Bool
is_admitted null allowed v = v == null || has allowed v

-- whether a node is the given one, a trade of the set or the null node
abbrev pub is_looked_at : ℕ → ℕ → ℕ → ℕ → Bool
is_looked_at null node allowed v = v == node || is_admitted null allowed v

-- no number stands twice in the list
abbrev pub AreDifferent : List ℕ → Type 0
AreDifferent list = (j k v : ℕ) → slice_get list j ≡ Some v → slice_get list k ≡ Some v → j ≡ k

-- t is none of them
abbrev pub Avoids : ℕ → List ℕ → Type 0
Avoids t vs = All (λ v. v ≢ t) vs

-- a closed walk that meets t at its two ends alone costs at least this
abbrev pub CyclesCostAtLeast : (ℕ → ℕ → Option ℤ) → ℕ → ℤ → Type 0
CyclesCostAtLeast arc t least = (vs : List ℕ) (cost : ℤ) → Avoids t vs → walk_cost arc t vs t ≡ Some cost
    → least ≤ℤ cost

-- no closed walk has a negative cost
abbrev pub HasNoNegativeCycle : (ℕ → ℕ → Option ℤ) → Type 0
HasNoNegativeCycle arc = (u : ℕ) (vs : List ℕ) (cost : ℤ) → walk_cost arc u vs u ≡ Some cost → pos 0 ≤ℤ cost

-- a cycle: from t through the nodes of the list and back to t, with this cost, and no node twice
pub record IsCycle (arc : ℕ → ℕ → Option ℤ) (t : ℕ) (vs : List ℕ) (cost : ℤ) : Type 0 where
  pub walk : walk_cost arc t vs t ≡ Some cost
  pub different : AreDifferent (t ∷ vs)

-- a cycle through t of least cost, and of those of that cost one with the fewest arcs
pub record IsLeastCycle (arc : ℕ → ℕ → Option ℤ) (t : ℕ) (vs : List ℕ) (cost : ℤ) : Type 0 where
  pub cycle : IsCycle arc t vs cost
  pub least : CyclesCostAtLeast arc t cost
  pub shortest : (ws : List ℕ) → Avoids t ws → walk_cost arc t ws t ≡ Some cost → length vs ≤ length ws

-- numbers of the nodes keep the arcs: no arc costs less than the number of its end minus that of its begin
abbrev pub KeepsArcs : (ℕ → ℕ → Option ℤ) → (ℕ → ℤ) → Type 0
KeepsArcs arc label = (u v : ℕ) (cost : ℤ) → arc u v ≡ Some cost → label v ≤ℤ (label u +ℤ cost)

-- the same, where the arcs that end at t find another number there than those that begin at it
pub record KeepsArcsEntering (arc : ℕ → ℕ → Option ℤ) (t : ℕ) (entering : ℤ) (label : ℕ → ℤ) : Type 0 where
  pub others : (u v : ℕ) (cost : ℤ) → v ≢ t → arc u v ≡ Some cost → label v ≤ℤ (label u +ℤ cost)
  pub enters : (u : ℕ) (cost : ℤ) → arc u t ≡ Some cost → entering ≤ℤ (label u +ℤ cost)

-- the least cost of a walk from u to w
pub record IsLeastWalk (arc : ℕ → ℕ → Option ℤ) (u w : ℕ) (vs : List ℕ) (cost : ℤ) : Type 0 where
  pub walk : walk_cost arc u vs w ≡ Some cost
  pub least : (ws : List ℕ) (other : ℤ) → walk_cost arc u ws w ≡ Some other → cost ≤ℤ other

-- no walk leads from u to w
abbrev pub IsUnreached : (ℕ → ℕ → Option ℤ) → ℕ → ℕ → Type 0
IsUnreached arc u w = (vs : List ℕ) → walk_cost arc u vs w ≡ None
