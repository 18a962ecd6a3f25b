-- What a finder lets be read.
use Rattle.std.specs.Prelude.{◌≡◌, ℕ, ◌+◌, ◌≤◌, ◌<◌, ℤ, List, [], ◌∷◌, ◌++◌, length, map, take, reverse, All, Option, Bool, if◌then◌else◌}
use Rattle.std.specs.List.{range_with_len}
use Rattle.tn_cycle.specs.declared.cell.Cell.{Cell}
use Rattle.tn_cycle.specs.Cells.{cell_at, trail}
use Rattle.tn_cycle.specs.Widths.{most_graph_nodes}

pub record Reading : Type 0 where
  -- how many nodes the finder serves
  pub nodes : ℕ
  -- the nodes of the last cycle or walk, in order
  pub listed : List ℕ
  -- the label of each node, where some were found or given
  pub labels : List ℤ
  -- the least cost of a walk for each node, and that walk's nodes, after a search for least walks
  pub distances : List (Option ℤ)
  pub walks : List (List ℕ)

-- nothing may be read
abbrev pub nothing : ℕ → Reading
nothing nodes = record { nodes = nodes; listed = []; labels = []; distances = []; walks = [] }

-- no walks may be read
pub record ListsNoWalks (nodes : ℕ) (reading : Reading) : Type 0 where
  pub same_nodes : reading.nodes ≡ nodes
  pub no_distances : reading.distances ≡ []
  pub no_walks : reading.walks ≡ []

-- walks may be read, one for each node, and nothing is listed yet
pub record ReadsWalks (nodes : ℕ) (reading : Reading) : Type 0 where
  pub same_nodes : reading.nodes ≡ nodes
  pub one_each : length reading.distances ≡ nodes
  pub no_list : reading.listed ≡ []
  pub no_labels : reading.labels ≡ []

-- the nodes from v on that the cells lead to, and the end
abbrev pub way : ℕ → (ℕ → Cell) → ℕ → List ℕ
way end cell v = (v ∷ trail cell (cell v).inner_nodes v) ++ end ∷ []

-- the nodes of a walk in order: from v to the end, or in the graph turned round from the end to v
abbrev pub walk_nodes : Bool → ℕ → (ℕ → Cell) → ℕ → List ℕ
walk_nodes turns end cell v = if turns then reverse (way end cell v) else way end cell v

-- what the finder's parts let be read, the first so many of each
abbrev pub finder_reading : ℕ → ℕ → List ℕ → ℕ → List ℤ → ℕ → Bool → ℕ → List Cell → Reading
finder_reading nodes count path labelled labels reached turns end row = record {
  nodes = nodes;
  listed = take count path;
  labels = take labelled labels;
  distances = map (λ v. (cell_at row v).cost) (range_with_len 0 reached);
  walks = map (walk_nodes turns end (cell_at row)) (range_with_len 0 reached);
}

-- the nodes that the cell of v leads to are nodes, and few enough to be listed
pub record IsListable (places : ℕ) (row : List Cell) (v : ℕ) : Type 0 where
  pub few : (cell_at row v).inner_nodes + 2 ≤ places
  pub inside : All (λ u. u < length row) (trail (cell_at row) (cell_at row v).inner_nodes v)

-- the finder's lists are long enough for its nodes
pub record HasPlaces (nodes count labelled reached path labels row_places waits spaces : ℕ)
    (row : List Cell) : Type 0 where
  pub some : 1 ≤ nodes
  pub not_many : nodes ≤ most_graph_nodes
  pub row_sized : row_places ≡ nodes + 1
  pub waits_sized : waits ≡ nodes + 1
  pub path_sized : path ≡ nodes + 2
  pub spaced : spaces ≡ nodes + 1
  pub labels_sized : labels ≡ nodes
  pub listed : count ≤ nodes + 2
  pub labels_read : labelled ≤ nodes
  pub walks_read : reached ≤ nodes
  pub listable : (v : ℕ) → v < reached → IsListable (nodes + 2) row v
