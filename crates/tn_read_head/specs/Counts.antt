-- How many own trades each firm has among the trades that were read.
use Rattle.std.specs.Prelude.{◌≡◌, ℕ, ◌<◌, List, length, get_or, Some, None, Option}
use Rattle.tn_base.specs.declared.side.Side.{Side}
use Rattle.tn_model.specs.InOrder.{sides_of}
use Rattle.tn_model.specs.declared.ends.Ends.{Ends}

-- the counts of own trades among some trades, by firm
pub record AreOwnCounts (firms : ℕ) (trades : List Ends) (counts : List ℕ) : Type 0 where
  pub counted : length counts ≡ firms
  pub each : (f : ℕ) → f < firms → get_or counts f 0 ≡ length (sides_of trades f)

-- one more where the trade is an own one
abbrev pub one_if : Option Side → ℕ
one_if None = 0
one_if (Some side) = 1
