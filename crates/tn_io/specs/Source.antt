-- What was taken of a source's bytes, where it tells them.
use Rattle.std.specs.Prelude.{ℕ, ◌≡◌, ◌≤◌, List, length, drop, Option, None, Some, ⊤}

-- the known bytes lose exactly their first n
abbrev pub TakesFirst : Option (List ℕ) → Option (List ℕ) → ℕ → Type 0
TakesFirst None new n = ⊤
TakesFirst (Some xs) None n = ⊥
TakesFirst (Some xs) (Some ys) n = (n ≤ length xs) × (ys ≡ drop n xs)

-- the known bytes lose at most n at their front, and are a suffix of what they were
abbrev pub TakesAtMost : Option (List ℕ) → Option (List ℕ) → ℕ → Type 0
TakesAtMost old new n = (count : ℕ) × (count ≤ n) × TakesFirst old new count
