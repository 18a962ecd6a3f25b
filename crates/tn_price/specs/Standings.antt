-- How a firm stands with its bundle.
use Rattle.std.specs.Prelude.{◌≡◌, ℕ, ◌<◌, ℤ, pos, ◌-ℤ◌, ◌<ℤ◌, List, length, slice_get, All, Option, Some, None}
use Rattle.tn_base.specs.Arcs.{IsAtMost}
use Rattle.tn_base.specs.Firm.{Firm, IsBest}
use Rattle.tn_model.specs.declared.ends.Ends.{Ends}
use Rattle.tn_model.specs.Prices.{price_at}
use Rattle.tn_model.specs.Limits.{most_number}
use Rattle.tn_model.specs.Network.{part}
use Rattle.tn_market.specs.Equilibrium.{prices_at, utility_at}
use Rattle.tn_market.specs.Widths.{most_own, most_worth}
use Rattle.tn_price.specs.declared.firm_verdict.FirmVerdict.{FirmVerdict}
use Rattle.tn_price.specs.declared.firm_verdict.FirmVerdict.TheVariants.{Best, Impossible, Bettered}

-- x is possible, and y is a best bundle that has more by the gain
pub record IsBettered (value_of : ℕ → Option ℤ) (x y : ℕ) (gain : ℤ) : Type 0 where
  pub own_value : ℤ
  pub own_is : value_of x ≡ Some own_value
  pub best_value : ℤ
  pub best : IsBest value_of y best_value
  pub gain_is : gain ≡ best_value -ℤ own_value
  pub gains : pos 0 <ℤ gain

-- x is best, and has this worth
pub record IsBestWorth (worth value_of : ℕ → Option ℤ) (x : ℕ) (amount : ℤ) : Type 0 where
  pub worth_is : worth x ≡ Some amount
  pub small : IsAtMost amount most_worth
  pub value : ℤ
  pub best : IsBest value_of x value

abbrev pub Stands : (ℕ → Option ℤ) → (ℕ → Option ℤ) → ℕ → FirmVerdict → Type 0
Stands worth value_of x (Best amount) = IsBestWorth worth value_of x amount
Stands worth value_of x Impossible = worth x ≡ None
Stands worth value_of x (Bettered y gain) = IsBettered value_of x y gain

-- how firm f stands in an arrangement
abbrev pub StandsAt : List Firm → List Ends → ℤ → ℕ → (ℕ → ℤ) → ℕ → FirmVerdict → Type 0
StandsAt firms trades scale on prices f standing = (firm : Firm) → slice_get firms f ≡ Some firm
    → Stands firm.worth (utility_at trades scale prices f firm) (part trades f firm.count on) standing

-- the list has the prices at the first n positions of firm f
pub record AreOwnPrices (trades : List Ends) (prices : ℕ → ℤ) (f n : ℕ) (list : List ℤ) : Type 0 where
  pub counted : length list ≡ most_own
  pub small : All (λ p. IsAtMost p most_number) list
  pub each : (k : ℕ) → k < n → price_at list k ≡ prices_at trades prices f k
