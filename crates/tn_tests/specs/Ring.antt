-- The graph of the tests: a ring whose last arc may gain.
use Rattle.std.specs.Prelude.{ℕ, ◌+◌, Bool, ◌&&◌, ◌==◌, nat_lt, if◌then◌else◌, ℤ, pos, negsuc, Option, Some, None}

-- from each node to the next at 2, and from the last to the first at -10 or 1
abbrev pub ring : ℕ → Bool → ℕ → ℕ → Option ℤ
ring nodes gains a b =
    if nat_lt a nodes && nat_lt b nodes
    then (if b == a + 1 then Some (pos 2) else (if b == 0 && a + 1 == nodes
    then Some (if gains then negsuc 9 else pos 1) else None))
    else None
