-- Lists of prices.
use Rattle.std.specs.Prelude.{ℕ, ℤ, pos, List, get_or}

-- the price at a position of a list of prices
abbrev pub price_at : List ℤ → ℕ → ℤ
price_at prices k = get_or prices k (pos 0)
