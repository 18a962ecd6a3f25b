-- What there is room for in a session.
use Rattle.std.specs.Prelude.{ℕ, ◌^◌}

-- twice the bound of a firm's worths, for each trade and once more, is at most so much: no path without a node twice
-- costs more
abbrev pub most_path : ℕ
most_path = 10 ^ 17
