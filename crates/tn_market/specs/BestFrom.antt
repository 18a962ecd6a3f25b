-- A best bundle that was found from a bundle at hand.
use Rattle.std.specs.Prelude.{◌≡◌, ℕ, ℤ, Option}
use Rattle.tn_market.specs.Best.{IsBestBetween}

-- a best bundle within the allowed positions with its value, and the bundle at hand itself wherever that is best
pub record IsBestFrom (from allowed : ℕ) (value_of : ℕ → Option ℤ) (found : ℕ × ℤ) : Type 0 where
  pub best : IsBestBetween 0 allowed value_of found.0 found.1
  pub kept : (value : ℤ) → IsBestBetween 0 allowed value_of from value → found.0 ≡ from
