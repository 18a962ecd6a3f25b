-- A graph by the costs of its arcs.
use Rattle.std.specs.Prelude.{◌≡◌, ℕ, ◌<◌, ℤ, pos, neg_ℤ, ◌≤ℤ◌, Option, Some}

-- a number is at most this far from 0
pub record IsAtMost (z : ℤ) (limit : ℕ) : Type 0 where
  pub low : neg_ℤ (pos limit) ≤ℤ z
  pub high : z ≤ℤ pos limit

-- arcs lead from node to node
abbrev pub AreBetweenNodes : ℕ → (ℕ → ℕ → Option ℤ) → Type 0
AreBetweenNodes nodes arc = (a b : ℕ) (cost : ℤ) → arc a b ≡ Some cost → (a < nodes) × (b < nodes)

-- no cost is above this size
abbrev pub AreSmall : (ℕ → ℕ → Option ℤ) → ℕ → Type 0
AreSmall arc limit = (a b : ℕ) (cost : ℤ) → arc a b ≡ Some cost → IsAtMost cost limit

-- the first so many of a numbering have each node from which an arc leads to b, and none twice
pub record ListsPredecessors (nodes : ℕ) (arc : ℕ → ℕ → Option ℤ) (b count : ℕ) (node : ℕ → ℕ) : Type 0 where
  pub inside : (k : ℕ) → k < count → node k < nodes
  pub all : (a : ℕ) (cost : ℤ) → arc a b ≡ Some cost → (k : ℕ) × (k < count) × (node k ≡ a)
  pub once : (i k : ℕ) → i < count → k < count → node i ≡ node k → i ≡ k

-- the first so many of a numbering have each node to which an arc leads from a, and none twice
abbrev pub ListsSuccessors : ℕ → (ℕ → ℕ → Option ℤ) → ℕ → ℕ → (ℕ → ℕ) → Type 0
ListsSuccessors nodes arc a count node = ListsPredecessors nodes (λ u v. arc v u) a count node
