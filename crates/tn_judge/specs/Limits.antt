-- How large the prices are that complete an outcome.
use Rattle.std.specs.Prelude.{ℕ, ◌+◌, ◌*◌, ◌^◌}
use Rattle.tn_model.specs.Limits.{most_numerator, most_over, most_trades}
use Rattle.tn_market.specs.Widths.{most_worth}

-- the cost of an arc of the exchange graph is at most so much in size
abbrev pub most_exchange_cost : ℕ
most_exchange_cost = 2 * most_worth

-- one of the fixed graph, whose nodes are raised, at most so much
abbrev pub most_fixed_cost : ℕ
most_fixed_cost = most_over * most_exchange_cost + 2 * most_numerator

-- a label of that graph at most so much
abbrev pub most_fixed_label : ℕ
most_fixed_label = most_trades * most_fixed_cost

-- and a completing price at most so much
abbrev pub most_completing_price : ℕ
most_completing_price = 10 ^ 17
