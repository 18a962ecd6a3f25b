-- The part of a graph that labels keep, and one node more.
use Rattle.std.specs.Prelude.{ℕ, ℤ, ◌+ℤ◌, Option, Some, None, ◌==◌, ◌||◌, if◌then◌else◌}
use lib.Signed.{lt_z}

-- a cost that the labels of its begin and its end keep
abbrev pub kept_only : ℤ → ℤ → Option ℤ → Option ℤ
kept_only begin end None = None
kept_only begin end (Some cost) = if lt_z (begin +ℤ cost) end then None else Some cost

-- the arcs that labels keep, and all arcs at one node
abbrev pub shown_arc : (ℕ → ℤ) → ℕ → (ℕ → ℕ → Option ℤ) → ℕ → ℕ → Option ℤ
shown_arc label node arc u v = if u == node || v == node then arc u v else kept_only (label u) (label v) (arc u v)
