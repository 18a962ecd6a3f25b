-- What there is room for, whatever a document says.
use Rattle.std.specs.Prelude.{ℕ, ◌^◌}

-- a set of trades takes at most so many words of 64 trades each
abbrev pub most_limbs : ℕ
most_limbs = 256

-- an amount, a cost or a gain of a firm, and a worth in a table, is at most so much in size
abbrev pub most_amount : ℕ
most_amount = 10 ^ 9

-- the cost of an arc is at most so much in size
abbrev pub most_cost : ℕ
most_cost = 10 ^ 18
