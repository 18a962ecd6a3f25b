-- The ranges of the prices of all trades, and by which least walks they are found.
use Rattle.std.specs.Prelude.{◌≡◌, [], ◌∷◌, ◌++◌, ◌+ℤ◌, ◌-ℤ◌, if◌then◌else◌, All, None, ℕ, suc, ◌-◌, ◌≤◌, get_or, ◌+◌, ◌<◌, ℤ, pos, neg_ℤ, List, length, slice_get, Option, Some, option_map, IfSome}
use Rattle.tn_base.specs.Arcs.{IsAtMost}
use Rattle.tn_counts.specs.Counts.{IsEfficientByCounts, IsEquilibriumByCounts}
use Rattle.tn_counts.specs.Laminar.{firms_of}
use Rattle.tn_counts.specs.Ranges.{IsHighestByCounts, IsLowestByCounts, LoseTogether}
use Rattle.tn_counts.specs.Tree.{null_node}
use Rattle.tn_counts.specs.Widths.{most_unit_price}
use Rattle.tn_counts.specs.declared.market.UnitMarket.{UnitMarket}
use Rattle.tn_cycle.specs.Answers.{distance_in, walk_in}
use Rattle.tn_cycle.specs.Reading.{Reading}
use Rattle.tn_tree.specs.declared.range.UnitRange.{UnitRange}
use Rattle.tn_tree.specs.declared.steps.UnitStep.{UnitStep}
use Rattle.tn_tree.specs.Lists.{count_in}
use Rattle.tn_tree.specs.Steps.{AreKnown, AreOnce, entered, stepped_down, units_by}

-- steps from null to trade t that show that its price is never above a cost: where each firm makes its own steps, and t's
-- own step is made at the firm alone from which the walk comes, its seller where it is one more, all firms together lose the
-- cost, and one unit of t is sold that isn't bought
pub record IsHighPath (market : UnitMarket) (counts : ℕ → ℕ) (t : ℕ) (steps : List (Option UnitStep)) (cost : ℤ) : Type 0
  where
    pub own : UnitStep
    pub trade : own.trade ≡ t
    pub inner : List (Option UnitStep)
    pub steps_are : steps ≡ None ∷ (inner ++ Some own ∷ [])
    pub known : AreKnown market steps
    pub once : AreOnce steps
    pub sold : ℕ → ℕ
    pub bought : ℕ → ℕ
    pub others : (k : ℕ) → k < length market.trades.items → (k ≡ t → ⊥)
        → (pos (sold k) ≡ pos (counts k) +ℤ units_by steps k) × (bought k ≡ sold k)
    pub sold_own : pos (sold t) ≡ pos (counts t) +ℤ (if own.more then pos 1 else pos 0)
    pub bought_own : pos (bought t) ≡ pos (counts t) +ℤ (if own.more then pos 0 else pos 0 -ℤ pos 1)
    pub lose : LoseTogether market counts sold bought cost

-- the same from trade t to null, for its lowest price: t's own step is made at the firm alone to which the walk goes, its
-- buyer where it is one more, and one unit of t is bought that isn't sold
pub record IsLowPath (market : UnitMarket) (counts : ℕ → ℕ) (t : ℕ) (steps : List (Option UnitStep)) (cost : ℤ) : Type 0
  where
    pub own : UnitStep
    pub trade : own.trade ≡ t
    pub inner : List (Option UnitStep)
    pub steps_are : steps ≡ Some own ∷ (inner ++ None ∷ [])
    pub known : AreKnown market steps
    pub once : AreOnce steps
    pub sold : ℕ → ℕ
    pub bought : ℕ → ℕ
    pub others : (k : ℕ) → k < length market.trades.items → (k ≡ t → ⊥)
        → (pos (sold k) ≡ pos (counts k) +ℤ units_by steps k) × (bought k ≡ sold k)
    pub sold_own : pos (sold t) ≡ pos (counts t) +ℤ (if own.more then pos 0 else pos 0 -ℤ pos 1)
    pub bought_own : pos (bought t) ≡ pos (counts t) +ℤ (if own.more then pos 1 else pos 0)
    pub lose : LoseTogether market counts sold bought cost

-- such steps where there is a highest price, and where there is a lowest one
abbrev pub ShowsHighest : UnitMarket → (ℕ → ℕ) → ℕ → Option ℤ → List (Option UnitStep) → Type 0
ShowsHighest market counts t (Some high) steps = IsHighPath market counts t steps high
ShowsHighest market counts t None steps = steps ≡ []

abbrev pub ShowsLowest : UnitMarket → (ℕ → ℕ) → ℕ → Option ℤ → List (Option UnitStep) → Type 0
ShowsLowest market counts t (Some low) steps = IsLowPath market counts t steps (neg_ℤ low)
ShowsLowest market counts t None steps = steps ≡ []

-- the lowest and the highest price of trade t, with steps from the counts that show them
pub record IsRangeByCounts (market : UnitMarket) (counts : ℕ → ℕ) (t : ℕ) (range : UnitRange) : Type 0 where
  pub lowest : IsLowestByCounts (firms_of market) market.trades.items t range.low
  pub low_shown : ShowsLowest market counts t range.low range.low_path.items
  pub highest : IsHighestByCounts (firms_of market) market.trades.items t range.high
  pub high_shown : ShowsHighest market counts t range.high range.high_path.items

-- a range for each trade; the counts are of greatest surplus, and the highest prices, where each trade has one, make an
-- equilibrium with them, as do the lowest
pub record AreRangesByCounts (market : UnitMarket) (counts : List ℕ) (ranges : List UnitRange) : Type 0 where
  pub count_each : length counts ≡ length market.trades.items
  pub efficient : IsEfficientByCounts (firms_of market) market.trades.items (count_in counts)
  pub one_each : length ranges ≡ length market.trades.items
  pub each : (t : ℕ) (range : UnitRange) → slice_get ranges t ≡ Some range
      → IsRangeByCounts market (count_in counts) t range
  pub highs : (prices : ℕ → ℤ) → ((t : ℕ) (range : UnitRange) → slice_get ranges t ≡ Some range
      → range.high ≡ Some (prices t))
      → IsEquilibriumByCounts (firms_of market) market.trades.items (pos 1) (count_in counts) prices
  pub lows : (prices : ℕ → ℤ) → ((t : ℕ) (range : UnitRange) → slice_get ranges t ≡ Some range
      → range.low ≡ Some (prices t))
      → IsEquilibriumByCounts (firms_of market) market.trades.items (pos 1) (count_in counts) prices

-- its prices are those of an arrangement
pub record IsSmallRange (range : UnitRange) : Type 0 where
  pub low : IfSome range.low (λ price. IsAtMost price most_unit_price)
  pub high : IfSome range.high (λ price. IsAtMost price most_unit_price)

-- ---- how they are found

-- the finder lets the same walks be read
pub record KeepsWalks (before after : Reading) : Type 0 where
  pub distances : after.distances ≡ before.distances
  pub walks : after.walks ≡ before.walks

-- two nodes or more of a market
pub record IsWalk (market : UnitMarket) (nodes : List ℕ) : Type 0 where
  pub two : 2 ≤ length nodes
  pub inside : All (λ v. v < suc (null_node market)) nodes

-- the walks of a node
pub record AreWalks (market : UnitMarket) (from_null to_null : Reading) (node : ℕ) : Type 0 where
  pub high : IfSome (distance_in from_null node) (λ c. IsWalk market (walk_in from_null node))
  pub low : IfSome (distance_in to_null node) (λ c. IsWalk market (walk_in to_null node))
  pub small : IfSome (distance_in to_null node) (λ c. IsAtMost c most_unit_price)

-- the steps of a walk, none where there is none
abbrev pub high_steps : UnitMarket → Option ℤ → List ℕ → List (Option UnitStep)
high_steps market None nodes = []
high_steps market (Some cost) nodes = entered market (get_or nodes (length nodes - 1) 0) nodes

abbrev pub low_steps : UnitMarket → Option ℤ → List ℕ → List (Option UnitStep)
low_steps market None nodes = []
low_steps market (Some cost) nodes = stepped_down market nodes

-- by the least walks from null to a node and from there to null
pub record IsRangeBy (market : UnitMarket) (from_null to_null : Reading) (node : ℕ) (range : UnitRange) : Type 0 where
  pub low : range.low ≡ option_map neg_ℤ (distance_in to_null node)
  pub low_path : range.low_path.items ≡ low_steps market (distance_in to_null node) (walk_in to_null node)
  pub high : range.high ≡ distance_in from_null node
  pub high_path : range.high_path.items ≡ high_steps market (distance_in from_null node) (walk_in from_null node)

-- the ranges of the first trades, so many, the first of which has this node
pub record AreRangesBy (market : UnitMarket) (from_null to_null : Reading) (place count : ℕ) (ranges : List UnitRange) :
    Type 0 where
  pub one_each : length ranges ≡ count
  pub each : (t : ℕ) (range : UnitRange) → slice_get ranges t ≡ Some range
      → IsRangeBy market from_null to_null (place + t) range
