-- The lesser of two trade numbers.
use Rattle.std.specs.Prelude.{ℕ, nat_lt, if◌then◌else◌, Option, Some, None}

-- the lesser of a trade that was found and of one more
abbrev pub earlier : Option ℕ → ℕ → ℕ
earlier None trade = trade
earlier (Some first) trade = if nat_lt first trade then first else trade
