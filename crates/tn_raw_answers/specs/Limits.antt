-- How large the numbers are that are told of a firm in an arrangement.
use Rattle.std.specs.Prelude.{ℕ, ◌^◌}

-- the utility of a bundle at the prices of an arrangement is at most so much in size
abbrev pub most_told_utility : ℕ
most_told_utility = 10 ^ 16
