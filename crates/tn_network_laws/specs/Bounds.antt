-- How far the prices of a trade go.
use Rattle.std.specs.Prelude.{ℕ, ◌<◌, ℤ, pos, neg_ℤ, ◌≤ℤ◌, List, length, Option, Some, None, option_map}
use Rattle.tn_base.specs.Firm.{Firm}
use Rattle.tn_base.specs.Walks.{IsLeastWalk, IsUnreached}
use Rattle.tn_model.specs.declared.ends.Ends.{Ends}
use Rattle.tn_model.specs.Network.{IsNetwork}
use Rattle.tn_market.specs.Equilibrium.{IsEquilibrium, IsEfficient}
use Rattle.tn_market.specs.Graph.{exchange_arc}
use Rattle.tn_market.specs.Ranges.{IsHighest, IsLowest}
use Rattle.tn_network_laws.specs.Laws.{MeetExchange}

-- the prices of an equilibrium, at any scale of at least 1, make one with each other set of the greatest surplus too
abbrev pub EfficientSetsSharePrices : Type 0
EfficientSetsSharePrices = (firms : List Firm) (trades : List Ends) (scale : ℤ) (on other : ℕ) (prices : ℕ → ℤ)
    → IsNetwork firms trades
    → pos 1 ≤ℤ scale → IsEquilibrium firms trades scale on prices → IsEfficient firms trades other
    → IsEquilibrium firms trades scale other prices

-- the least cost of a walk from u to w, none where there is no walk
abbrev pub IsDistance : (ℕ → ℕ → Option ℤ) → ℕ → ℕ → Option ℤ → Type 0
IsDistance arc u w (Some cost) = (vs : List ℕ) × IsLeastWalk arc u w vs cost
IsDistance arc u w None = IsUnreached arc u w

-- each trade's least cost of a walk from null to it in the exchange graph at a set of trades, none where there is no
-- walk
abbrev pub AreDistancesFromNull : List Firm → List Ends → ℕ → (ℕ → Option ℤ) → Type 0
AreDistancesFromNull firms trades on distance = (t : ℕ) → t < length trades
    → IsDistance (exchange_arc firms trades on) (length trades) t (distance t)

-- the same of walks from the trade to null
abbrev pub AreDistancesToNull : List Firm → List Ends → ℕ → (ℕ → Option ℤ) → Type 0
AreDistancesToNull firms trades on distance = (t : ℕ) → t < length trades
    → IsDistance (exchange_arc firms trades on) t (length trades) (distance t)

-- what the exchange graph says of all prices, at whatever set of trades some prices support
pub record PriceBoundsAreDistances : Type 0 where
  -- a trade's highest price is its distance from null
  pub highest : (firms : List Firm) (trades : List Ends) (on : ℕ) (prices : ℕ → ℤ) → IsNetwork firms trades
      → MeetExchange firms → IsEquilibrium firms trades (pos 1) on prices
      → (distance : ℕ → Option ℤ) → AreDistancesFromNull firms trades on distance → (t : ℕ) → t < length trades
      → IsHighest firms trades t (distance t)
  -- its lowest price is the negative of its distance to null
  pub lowest : (firms : List Firm) (trades : List Ends) (on : ℕ) (prices : ℕ → ℤ) → IsNetwork firms trades
      → MeetExchange firms → IsEquilibrium firms trades (pos 1) on prices
      → (distance : ℕ → Option ℤ) → AreDistancesToNull firms trades on distance → (t : ℕ) → t < length trades
      → IsLowest firms trades t (option_map neg_ℤ (distance t))
  -- the highest prices, where each trade has one, support the set together
  pub highs : (firms : List Firm) (trades : List Ends) (on : ℕ) (prices : ℕ → ℤ) → IsNetwork firms trades
      → MeetExchange firms → IsEquilibrium firms trades (pos 1) on prices
      → (high : ℕ → ℤ) → AreDistancesFromNull firms trades on (λ t. Some (high t))
      → IsEquilibrium firms trades (pos 1) on high
  -- and so do the lowest ones
  pub lows : (firms : List Firm) (trades : List Ends) (on : ℕ) (prices : ℕ → ℤ) → IsNetwork firms trades
      → MeetExchange firms → IsEquilibrium firms trades (pos 1) on prices
      → (low : ℕ → ℤ) → AreDistancesToNull firms trades on (λ t. Some (neg_ℤ (low t)))
      → IsEquilibrium firms trades (pos 1) on low
