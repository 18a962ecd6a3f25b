-- The limits of documents whose trades have units, beside those of the markets that they are.
use Rattle.std.specs.Prelude.{ℕ, ◌^◌}

-- the version of these documents
abbrev pub unit_version : ℕ
unit_version = 4

-- the most units of a trade, or of a step of a set
abbrev pub most_units_at_once : ℕ
most_units_at_once = 2 ^ 20

-- a number of a firm, for a unit, is at most so much in size
abbrev pub most_number : ℕ
most_number = 10 ^ 7

-- the most steps of a list
abbrev pub most_steps : ℕ
most_steps = 256

-- the farthest net count from 0 that the first number of a set may be for, and the most numbers of a set
abbrev pub most_from : ℕ
most_from = 256

abbrev pub most_values : ℕ
most_values = 513

-- a trade is in at most so many sets of a firm
abbrev pub most_holding_sets : ℕ
most_holding_sets = 16
