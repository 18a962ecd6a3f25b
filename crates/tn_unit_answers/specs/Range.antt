-- What `range` says of a document whose trades have units.
use Rattle.std.specs.Prelude.{◌≡◌, ℕ, ◌<◌, ℤ, pos, neg_ℤ, ◌+ℤ◌, ◌-ℤ◌, List, [], ◌∷◌, ◌++◌, length, map, slice_get, if◌then◌else◌, Option, Some, None}
use Rattle.tn_links.specs.Totals.{total}
use Rattle.tn_counts.specs.Counts.{AreCounts, CountFirm, IsEfficientByCounts, IsEquilibriumByCounts, count_surplus}
use Rattle.tn_counts.specs.Ranges.{IsHighestByCounts, IsLowestByCounts, apart_counts}
use Rattle.tn_counts.specs.declared.trade.UnitTrade.{UnitTrade}
use Rattle.tn_read_units.specs.Firms.{UnitDocument}
use Rattle.tn_read_units.specs.Worths.{written_firms}
use Rattle.tn_said.specs.declared.said.Said.{Said}
use Rattle.tn_said.specs.declared.said.Said.TheVariants.{RangesByCounts}
use Rattle.tn_said.specs.declared.units.UnitRange.{UnitRange}
use Rattle.tn_said.specs.declared.units.UnitStep.{UnitStep}
use Rattle.tn_tree.specs.Lists.{count_in}
use Rattle.tn_tree.specs.Steps.{AreOnce, units_by}
use Rattle.tn_unit_answers.specs.Solve.{unit_ends}
use Rattle.tn_unit_answers.specs.Steps.{AreStepsOf, market_steps}

-- at these units sold and bought the firms' worths sum to so much less than the surplus of counts
pub record LoseByCounts (firms : List CountFirm) (trades : List UnitTrade) (counts sold bought : ℕ → ℕ) (cost : ℤ) : Type 0
  where
    pub sold_within : AreCounts trades sold
    pub bought_within : AreCounts trades bought
    pub surplus : ℤ
    pub is : count_surplus firms counts ≡ Some surplus
    pub worths : ℕ → ℤ
    pub each : (f : ℕ) (firm : CountFirm) → slice_get firms f ≡ Some firm
        → firm.worth (apart_counts trades sold bought f) ≡ Some (worths f)
    pub sum : total worths (length firms) ≡ surplus -ℤ cost

-- the units of each trade after steps that trades take once each. Both its firms take the step of a trade but t, of which
-- one firm alone takes the own step: after that it has one unit more than the other firm
pub record AreOwnSteps (trades : List UnitTrade) (counts : ℕ → ℕ) (t : ℕ) (own : UnitStep) (steps : List (Option UnitStep))
    (more fewer : ℕ → ℕ) : Type 0 where
  pub trade : own.trade ≡ t
  pub known : AreStepsOf trades steps
  pub once : AreOnce (market_steps steps)
  pub others : (k : ℕ) → k < length trades → (k ≡ t → ⊥)
      → (pos (more k) ≡ pos (counts k) +ℤ units_by (market_steps steps) k) × (fewer k ≡ more k)
  pub own_more : pos (more t) ≡ pos (counts t) +ℤ (if own.more then pos 1 else pos 0)
  pub own_fewer : pos (fewer t) ≡ pos (counts t) +ℤ (if own.more then pos 0 else pos 0 -ℤ pos 1)

-- steps from null to trade t that show that no equilibrium has a price of it above a cost: by them all firms together lose
-- the cost, and one unit of t is sold that isn't bought
pub record IsHighWalk (firms : List CountFirm) (trades : List UnitTrade) (counts : ℕ → ℕ) (t : ℕ)
    (steps : List (Option UnitStep)) (cost : ℤ) : Type 0 where
  pub own : UnitStep
  pub inner : List (Option UnitStep)
  pub steps_are : steps ≡ None ∷ (inner ++ Some own ∷ [])
  pub sold : ℕ → ℕ
  pub bought : ℕ → ℕ
  pub made : AreOwnSteps trades counts t own steps sold bought
  pub lose : LoseByCounts firms trades counts sold bought cost

-- steps from trade t to null that show that none has one below minus a cost: one unit of t is bought that isn't sold
pub record IsLowWalk (firms : List CountFirm) (trades : List UnitTrade) (counts : ℕ → ℕ) (t : ℕ)
    (steps : List (Option UnitStep)) (cost : ℤ) : Type 0 where
  pub own : UnitStep
  pub inner : List (Option UnitStep)
  pub steps_are : steps ≡ Some own ∷ (inner ++ None ∷ [])
  pub sold : ℕ → ℕ
  pub bought : ℕ → ℕ
  pub made : AreOwnSteps trades counts t own steps bought sold
  pub lose : LoseByCounts firms trades counts sold bought cost

-- such steps where there is a highest price, and where there is a lowest one
abbrev pub ShowsHigh : List CountFirm → List UnitTrade → (ℕ → ℕ) → ℕ → Option ℤ → List (Option UnitStep) → Type 0
ShowsHigh firms trades counts t (Some high) steps = IsHighWalk firms trades counts t steps high
ShowsHigh firms trades counts t None steps = steps ≡ []

abbrev pub ShowsLow : List CountFirm → List UnitTrade → (ℕ → ℕ) → ℕ → Option ℤ → List (Option UnitStep) → Type 0
ShowsLow firms trades counts t (Some low) steps = IsLowWalk firms trades counts t steps (neg_ℤ low)
ShowsLow firms trades counts t None steps = steps ≡ []

-- the lowest and the highest price of trade t over all equilibria by counts, none exactly where there is no bound, with
-- steps from the counts that show them
pub record IsRangeOf (firms : List CountFirm) (trades : List UnitTrade) (counts : ℕ → ℕ) (t : ℕ) (range : UnitRange) : Type
    0 where
  pub lowest : IsLowestByCounts firms trades t range.low
  pub low_shown : ShowsLow firms trades counts t range.low range.low_path
  pub highest : IsHighestByCounts firms trades t range.high
  pub high_shown : ShowsHigh firms trades counts t range.high range.high_path

-- counts than which none have more surplus, and a range for each trade; the highest prices, where each trade has one, make
-- an equilibrium with the counts, and so do the lowest
pub record AreRangesOf (firms : List CountFirm) (trades : List UnitTrade) (counts : List ℕ) (ranges : List UnitRange) : Type
    0 where
  pub counted : length counts ≡ length trades
  pub efficient : IsEfficientByCounts firms trades (count_in counts)
  pub ranged : length ranges ≡ length trades
  pub each : (t : ℕ) (range : UnitRange) → slice_get ranges t ≡ Some range
      → IsRangeOf firms trades (count_in counts) t range
  pub highs : (prices : ℕ → ℤ) → ((t : ℕ) (range : UnitRange) → slice_get ranges t ≡ Some range
      → range.high ≡ Some (prices t)) → IsEquilibriumByCounts firms trades (pos 1) (count_in counts) prices
  pub lows : (prices : ℕ → ℤ) → ((t : ℕ) (range : UnitRange) → slice_get ranges t ≡ Some range
      → range.low ≡ Some (prices t)) → IsEquilibriumByCounts firms trades (pos 1) (count_in counts) prices

-- beside the ends of the trades
abbrev pub TellsRangesByCounts : UnitDocument → Said → Type 0
TellsRangesByCounts doc (RangesByCounts counts ranges ends) =
    AreRangesOf (written_firms doc) doc.head.trades counts ranges × (ends ≡ map unit_ends doc.head.trades)
TellsRangesByCounts doc said = ⊥
