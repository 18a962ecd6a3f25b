-- What may be said of an arrangement: a set of trades with prices for all trades.
use Rattle.std.specs.Prelude.{◌≡◌, ℕ, ◌<◌, ℤ, pos, ◌-ℤ◌, ◌<ℤ◌, List, slice_get, Some, None}
use Rattle.tn_base.specs.Firm.{Firm, IsBest}
use Rattle.tn_model.specs.declared.ends.Ends.{Ends}
use Rattle.tn_model.specs.Network.{part}
use Rattle.tn_market.specs.Equilibrium.{utility_at, HasBest}

-- each firm before f has a best bundle
abbrev pub AreBestBefore : List Firm → List Ends → ℤ → ℕ → (ℕ → ℤ) → ℕ → Type 0
AreBestBefore firms trades scale on prices f = (g : ℕ) (firm : Firm) → g < f → slice_get firms g ≡ Some firm
    → HasBest trades scale on prices g firm

-- firm f is the first that has no best bundle, since its bundle is impossible
pub record IsFirstImpossible (firms : List Firm) (trades : List Ends) (scale : ℤ) (on : ℕ) (prices : ℕ
    → ℤ) (f : ℕ) : Type 0 where
  pub before : AreBestBefore firms trades scale on prices f
  pub firm : Firm
  pub is : slice_get firms f ≡ Some firm
  pub impossible : firm.worth (part trades f firm.count on) ≡ None

-- firm f is the first that has no best bundle: its own is possible, and x is a best one that has more by the gain
pub record IsFirstBettered (firms : List Firm) (trades : List Ends) (scale : ℤ) (on : ℕ) (prices : ℕ
    → ℤ) (f x : ℕ) (gain : ℤ) : Type 0 where
  pub before : AreBestBefore firms trades scale on prices f
  pub firm : Firm
  pub is : slice_get firms f ≡ Some firm
  pub own_value : ℤ
  pub own_is : utility_at trades scale prices f firm (part trades f firm.count on) ≡ Some own_value
  pub best_value : ℤ
  pub best : IsBest (utility_at trades scale prices f firm) x best_value
  pub gain_is : gain ≡ best_value -ℤ own_value
  pub gains : pos 0 <ℤ gain
