-- How large a market may be on which outcomes are judged, and how large what is made of it then is.
use Rattle.std.specs.Prelude.{ℕ, ◌+◌, ◌*◌}
use Rattle.tn_model.specs.Limits.{most_numerator, most_over, most_trades}
use Rattle.tn_market.specs.Widths.{most_own, most_worth}

-- the most trades of a market on which an outcome is judged: more, and a residual market's prices may not fit
abbrev pub most_judged_trades : ℕ
most_judged_trades = most_trades

-- the most trades of its residual market
abbrev pub most_residual_trades : ℕ
most_residual_trades = 2 * most_judged_trades

-- a reduced worth is at most so much in size, and the cost of an arc of their graph at most twice that
abbrev pub most_reduced_worth : ℕ
most_reduced_worth = most_over * most_worth + most_own * most_numerator

abbrev pub most_reduced_cost : ℕ
most_reduced_cost = 2 * most_reduced_worth
