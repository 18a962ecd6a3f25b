-- What a search finds.
use Rattle.std.specs.Prelude.{◌≡◌, ◌≢◌, ℕ, ◌<◌, ℤ, pos, ◌≤ℤ◌, List, length, Option, Some}
use Rattle.tn_base.specs.Walks.{walk_cost, Avoids}
use Rattle.tn_cycle.specs.declared.cell.Cell.{Cell}
use Rattle.tn_cycle.specs.Order.{IsUpTo, IsBelow}
use Rattle.tn_cycle.specs.Cells.{trail}

-- no closed walk that avoids t has a negative cost
abbrev pub HasNoNegativeCycleOff : (ℕ → ℕ → Option ℤ) → ℕ → Type 0
HasNoNegativeCycleOff arc t =
    (u : ℕ) (vs : List ℕ) (cost : ℤ) → u ≢ t → Avoids t vs → walk_cost arc u vs u ≡ Some cost → pos 0 ≤ℤ cost

-- for each node, its cell has the least cost of a walk to the end and leads along such a walk with the fewest arcs
pub record IsSettled (nodes : ℕ) (arc : ℕ → ℕ → Option ℤ) (end : ℕ) (cell : ℕ → Cell) : Type 0 where
  pub least : (v : ℕ) (ws : List ℕ) → v < nodes → Avoids end ws → IsUpTo (cell v).cost (walk_cost arc v ws end)
  pub fewest : (v : ℕ) (ws : List ℕ) → v < nodes → Avoids end ws → length ws < (cell v).inner_nodes
      → IsBelow (cell v).cost (walk_cost arc v ws end)
  pub leads : (v : ℕ) → v < nodes → walk_cost arc v (trail cell (cell v).inner_nodes v) end ≡ (cell v).cost
  pub avoids : (v : ℕ) → v < nodes → Avoids end (trail cell (cell v).inner_nodes v)
  pub few : (v : ℕ) → v < nodes → (cell v).inner_nodes < nodes
