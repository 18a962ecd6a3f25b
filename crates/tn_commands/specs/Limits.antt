-- How large a market may be to which the commands answer.
use Rattle.std.specs.Prelude.{ℕ, List, length}
use Rattle.tn_base.specs.Firm.{Firm}
use Rattle.tn_model.specs.Limits.{most_trades, most_worth_among}
use Rattle.tn_model.specs.declared.ends.Ends.{Ends}
use Rattle.tn_market.specs.Limits.{AreWorthsWithin}

-- the most trades of a market to which a command answers: as many as the sets of a document take, and no more than keep
-- prices within the limits of answers
abbrev pub most_answered_trades : ℕ
most_answered_trades = most_trades

-- the worths of a market are small enough for so many trades
abbrev pub AreWorthsAnswered : List Firm → List Ends → Type 0
AreWorthsAnswered firms trades = AreWorthsWithin (most_worth_among (length trades)) firms
