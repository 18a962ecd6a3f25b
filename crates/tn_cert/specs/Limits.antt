-- How large a market may be on which claims are replayed.
use Rattle.std.specs.Prelude.{ℕ, ◌*◌}
use Rattle.tn_model.specs.Limits.{most_claimed_over, most_parts, most_trades, most_worth_of_any}

-- the most trades of a market on which a claim is replayed, which is as many as a set of a claim takes
abbrev pub most_claimed_trades : ℕ
most_claimed_trades = most_trades

-- a worth times a weight is at most so much in size
abbrev pub most_weighed_worth : ℕ
most_weighed_worth = most_claimed_over * most_worth_of_any

-- what a firm has of a plan's worth, by its parts and by what they leave, is at most so much in size
abbrev pub most_planned_worth : ℕ
most_planned_worth = 2 * most_parts * most_weighed_worth
