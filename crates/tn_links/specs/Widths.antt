-- What there is room for.
use Rattle.std.specs.Prelude.{ℕ, ◌*◌, ◌^◌, ◌-◌}

-- a unit adds at most so much to a gain, in size
abbrev pub most_each : ℕ
most_each = 2 * 10 ^ 15

-- the steps of a link have at most so many units
abbrev pub most_units : ℕ
most_units = 2 ^ 24

-- a lot has at most so many units
abbrev pub most_lot : ℕ
most_lot = 2 ^ 22

-- there are at most so many links
abbrev pub most_links : ℕ
most_links = 2 ^ 24

-- the code's numbers hold no level above this one
abbrev pub most_level : ℕ
most_level = 2 ^ 32 - 1

-- no number of units of a link adds more than this, in size
abbrev pub most_rise : ℕ
most_rise = most_level * most_each

-- labels farther from 0 than this are given up
abbrev pub near_enough : ℕ
near_enough = 10 ^ 26
