-- How a sink's written bytes grow, where it tells them.
use Rattle.std.specs.Prelude.{ℕ, ◌≡◌, ◌≤◌, List, ◌++◌, length, take, Option, None, Some, ⊤}

-- what is told after was told before, and grew by exactly these bytes
abbrev pub Grows : Option (List ℕ) → Option (List ℕ) → List ℕ → Type 0
Grows old None bytes = ⊤
Grows None (Some ys) bytes = ⊥
Grows (Some xs) (Some ys) bytes = ys ≡ xs ++ bytes

-- what is told after was told before, and grew by a prefix of these bytes
abbrev pub GrowsByPrefix : Option (List ℕ) → Option (List ℕ) → List ℕ → Type 0
GrowsByPrefix old new bytes =
    (count : ℕ) × (count ≤ length bytes) × Grows old new (take count bytes)
