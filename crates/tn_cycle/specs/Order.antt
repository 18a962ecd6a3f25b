-- Numbers that may be none, where none is above all others.
use Rattle.std.specs.Prelude.{ℤ, ◌≤ℤ◌, ◌<ℤ◌, Option, Some, None}

-- the first is at most the second
abbrev pub IsUpTo : Option ℤ → Option ℤ → Type 0
IsUpTo (Some a) (Some b) = a ≤ℤ b
IsUpTo None (Some b) = ⊥
IsUpTo first None = Unit {0}

-- the first is below the second
abbrev pub IsBelow : Option ℤ → Option ℤ → Type 0
IsBelow (Some a) (Some b) = a <ℤ b
IsBelow (Some a) None = Unit {0}
IsBelow None second = ⊥
