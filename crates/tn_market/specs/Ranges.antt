-- The prices that a trade has over all equilibria, with whatever trades on, and what shows how far they go.
use Rattle.std.specs.Prelude.{◌≡◌, ℕ, ℤ, pos, neg_ℤ, ◌≤ℤ◌, ◌<ℤ◌, List, [], ◌∷◌, ◌++◌, length, map, slice_get, Option, Some, None}
use Rattle.tn_base.specs.Firm.{Firm}
use Rattle.tn_base.specs.Walks.{walk_cost, AreDifferent}
use Rattle.tn_model.specs.declared.ends.Ends.{Ends}
use Rattle.tn_model.specs.declared.range.Range.{Range}
use Rattle.tn_market.specs.Equilibrium.{IsEquilibrium}
use Rattle.tn_market.specs.Graph.{exchange_arc}
use Rattle.tn_market.specs.Supported.{said_node}

-- trade t has this price in some equilibrium at scale 1, whatever trades are on in it
pub record IsPriceOf (firms : List Firm) (trades : List Ends) (t : ℕ) (price : ℤ) : Type 0 where
  pub on : ℕ
  pub prices : ℕ → ℤ
  pub equilibrium : IsEquilibrium firms trades (pos 1) on prices
  pub is : prices t ≡ price

-- the highest price that trade t has, none where for each bound some price is above it
abbrev pub IsHighest : List Firm → List Ends → ℕ → Option ℤ → Type 0
IsHighest firms trades t (Some high) = IsPriceOf firms trades t high
    × ((price : ℤ) → IsPriceOf firms trades t price → price ≤ℤ high)
IsHighest firms trades t None = (bound : ℤ) → (price : ℤ) × IsPriceOf firms trades t price × (bound <ℤ price)

-- the lowest price, none where for each bound some price is below it
abbrev pub IsLowest : List Firm → List Ends → ℕ → Option ℤ → Type 0
IsLowest firms trades t (Some low) = IsPriceOf firms trades t low
    × ((price : ℤ) → IsPriceOf firms trades t price → low ≤ℤ price)
IsLowest firms trades t None = (bound : ℤ) → (price : ℤ) × IsPriceOf firms trades t price × (price <ℤ bound)

-- the nodes are those of a walk of the exchange graph from u to w of this cost, and none stands twice
pub record IsPath (firms : List Firm) (trades : List Ends) (on u w : ℕ) (nodes : List (Option ℕ)) (cost : ℤ) : Type
    0 where
  pub inner : List ℕ
  pub nodes_are : nodes ≡ map (said_node (length trades)) ((u ∷ inner) ++ w ∷ [])
  pub walk : walk_cost (exchange_arc firms trades on) u inner w ≡ Some cost
  pub different : AreDifferent ((u ∷ inner) ++ w ∷ [])

-- a path from null to trade t at the cost of its highest price, and no nodes where there is none
abbrev pub ShowsHighest : List Firm → List Ends → ℕ → ℕ → Option ℤ → List (Option ℕ) → Type 0
ShowsHighest firms trades on t (Some high) nodes = IsPath firms trades on (length trades) t nodes high
ShowsHighest firms trades on t None nodes = nodes ≡ []

-- a path from trade t to null at the negative of its lowest price
abbrev pub ShowsLowest : List Firm → List Ends → ℕ → ℕ → Option ℤ → List (Option ℕ) → Type 0
ShowsLowest firms trades on t (Some low) nodes = IsPath firms trades on t (length trades) nodes (neg_ℤ low)
ShowsLowest firms trades on t None nodes = nodes ≡ []

-- the lowest and the highest price of trade t, with the paths at the set that show them
pub record IsRange (firms : List Firm) (trades : List Ends) (on t : ℕ) (range : Range) : Type 0 where
  pub lowest : IsLowest firms trades t range.low
  pub low_shown : ShowsLowest firms trades on t range.low range.low_path
  pub highest : IsHighest firms trades t range.high
  pub high_shown : ShowsHighest firms trades on t range.high range.high_path

-- a range for each trade; and the highest prices, where each trade has one, support the set together, as the lowest do
pub record AreRanges (firms : List Firm) (trades : List Ends) (on : ℕ) (ranges : List Range) : Type 0 where
  pub one_each : length ranges ≡ length trades
  pub each : (t : ℕ) (range : Range) → slice_get ranges t ≡ Some range → IsRange firms trades on t range
  pub highs : (prices : ℕ → ℤ) → ((t : ℕ) (range : Range) → slice_get ranges t ≡ Some range
      → range.high ≡ Some (prices t)) → IsEquilibrium firms trades (pos 1) on prices
  pub lows : (prices : ℕ → ℤ) → ((t : ℕ) (range : Range) → slice_get ranges t ≡ Some range
      → range.low ≡ Some (prices t)) → IsEquilibrium firms trades (pos 1) on prices
