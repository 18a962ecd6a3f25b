-- Numbers of a firm's own trades.
use Rattle.std.specs.Prelude.{ℕ, ℤ, pos, List, get_or}

-- the number of the trade at a position, 0 where the list is shorter
abbrev pub own_number : List ℤ → ℕ → ℤ
own_number numbers k = get_or numbers k (pos 0)
