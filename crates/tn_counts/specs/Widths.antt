-- The limits of markets whose trades have units.
use Rattle.std.specs.Prelude.{ℕ, ◌*◌, ◌^◌}

-- the most firms, trades and sets of all firms
abbrev pub most_unit_firms : ℕ
most_unit_firms = 1024

abbrev pub most_unit_trades : ℕ
most_unit_trades = 4096

-- the most trades where contracts and what is unsigned stand beside each other
abbrev pub most_wide_trades : ℕ
most_wide_trades = 2 * most_unit_trades

abbrev pub most_count_sets : ℕ
most_count_sets = 4096

-- all trades together have at most so many units
abbrev pub most_market_units : ℕ
most_market_units = 2 ^ 20

-- the steps of a set have at most so many units: no net count leaves them by more than all units, either way
abbrev pub most_set_units : ℕ
most_set_units = 2 ^ 21

-- an amount or what a step adds is at most so much in size, for a unit
abbrev pub most_unit_amount : ℕ
most_unit_amount = 2 * 10 ^ 7

-- where a market's numbers are counted many times, one is at most so much in size: prices still end below 10^18
abbrev pub most_wide_amount : ℕ
most_wide_amount = 2 * 10 ^ 13

-- a price of an equilibrium is at most so much in size
abbrev pub most_unit_price : ℕ
most_unit_price = 2 * 10 ^ 11

-- a surplus is at most so much in size
abbrev pub most_unit_surplus : ℕ
most_unit_surplus = 10 ^ 18

-- more units than flow over any link, both ways
abbrev pub unbounded : ℕ
unbounded = 2 ^ 22
