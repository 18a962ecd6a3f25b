-- Graphs that are made from a graph.
use Rattle.std.specs.Prelude.{ℕ, Bool, ◌==◌, ◌&&◌, nat_lt, nat_le, if◌then◌else◌, ℤ, pos, Option, Some, None}

-- whether a node is a trade from the first on
abbrev pub is_trade_from : ℕ → ℕ → ℕ → Bool
is_trade_from first null v = nat_le first v && nat_lt v null

-- the graph with one node more, to which an arc of cost 0 leads from each other node
abbrev pub with_sink : ℕ → (ℕ → ℕ → Option ℤ) → ℕ → ℕ → Option ℤ
with_sink nodes arc u v = if nat_lt u nodes then (if v == nodes then Some (pos 0) else arc u v) else None

-- the graph with its arcs turned round
abbrev pub turned : (ℕ → ℕ → Option ℤ) → ℕ → ℕ → Option ℤ
turned arc u v = arc v u
