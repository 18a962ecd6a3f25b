-- Numbers that may be none.
use Rattle.std.specs.Prelude.{ℤ, ◌+ℤ◌, Option, Some, None}

-- the sum of two numbers, none where one of them is none
abbrev pub both : Option ℤ → Option ℤ → Option ℤ
both None second = None
both (Some a) None = None
both (Some a) (Some b) = Some (a +ℤ b)
