-- What the search keeps of each node.
use Rattle.std.specs.Prelude.{ℕ, zero, suc, ◌<◌, List, [], ◌∷◌, None, slice_index_or}
use Rattle.std.specs.Option.{ForSome}
use Rattle.tn_base.specs.Arcs.{IsAtMost}
use Rattle.tn_cycle.specs.declared.cell.Cell.{Cell}
use Rattle.tn_cycle.specs.Widths.{most_walk_cost}

-- the cell of a node of which nothing is known
abbrev pub no_cell : Cell
no_cell = record { cost = None; inner_nodes = 0; next = 0 }

-- the cell of a node
abbrev pub cell_at : List Cell → ℕ → Cell
cell_at cells v = slice_index_or cells v no_cell

-- the nodes after v that the cells lead to, so many of them
abbrev pub trail : (ℕ → Cell) → ℕ → ℕ → List ℕ
trail cell zero v = []
trail cell (suc k) v = (cell v).next ∷ trail cell k (cell v).next

-- the costs of the first cells are far from the limits of their type
abbrev pub HasRoom : ℕ → (ℕ → Cell) → Type 0
HasRoom nodes cell = (v : ℕ) → v < nodes → ForSome (cell v).cost (λ cost. IsAtMost cost most_walk_cost)
