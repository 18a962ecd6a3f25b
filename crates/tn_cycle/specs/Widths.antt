-- What there is room for in a search.
use Rattle.std.specs.Prelude.{ℕ, ◌+◌, ◌*◌, ◌^◌}
use Rattle.tn_base.specs.Widths.{most_limbs, most_cost}

-- a finder serves graphs of at most so many nodes: a set takes all but the null node
abbrev pub most_graph_nodes : ℕ
most_graph_nodes = 64 * most_limbs + 1

-- the cost of a walk in a cell is at most so much in size
abbrev pub most_walk_cost : ℕ
most_walk_cost = 10 ^ 23

-- a label or a distance that is read is at most so much in size
abbrev pub most_read : ℕ
most_read = 2 ^ 100

-- labels that a search goes by are at most so much in size
abbrev pub most_label : ℕ
most_label = 10 ^ 27

-- a search for a cycle takes the labels of a graph of so many nodes at most so much farther from 0
abbrev pub label_step : ℕ → ℕ
label_step nodes = (2 * nodes + 1) * most_cost
