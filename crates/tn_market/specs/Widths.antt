-- What there is room for in a market, whatever a document says.
use Rattle.std.specs.Prelude.{ℕ, ◌*◌, ◌^◌}
use Rattle.tn_model.specs.Limits.{most_claimed_over, most_over, most_own_trades, most_worth_of_any}

-- a market has at most so many firms
abbrev pub most_market_firms : ℕ
most_market_firms = 2048

-- a market has at most so many trades, which is as many as a set of trades takes
abbrev pub most_market_trades : ℕ
most_market_trades = 2048

-- the bound on the worths of a firm is at most so much
abbrev pub most_limit : ℕ
most_limit = 10 ^ 18

-- a firm that is asked for best bundles has at most so many own trades
abbrev pub most_own : ℕ
most_own = most_own_trades

-- its bound on worths is at most so much
abbrev pub most_worth : ℕ
most_worth = most_worth_of_any

-- the prices that it is asked at are at most so much in size, and a worth counts at most so many times: as often as the
-- denominators of an outcome and of what is claimed of it together
abbrev pub most_asked_price : ℕ
most_asked_price = 10 ^ 20

abbrev pub most_scale : ℕ
most_scale = most_over * most_claimed_over

-- a utility is at most so much in size
abbrev pub most_utility : ℕ
most_utility = 2 * 10 ^ 22

-- what the search for a best bundle compares, with the gains of wanted positions, is at most so much in size
abbrev pub most_aimed : ℕ
most_aimed = 4 * 10 ^ 24

-- the price at which a firm outside the market takes a contract over is at most so much in size
abbrev pub most_outside_price : ℕ
most_outside_price = 10 ^ 17
