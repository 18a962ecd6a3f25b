-- What `support` says of counts of a document whose trades have units.
use Rattle.std.specs.Prelude.{◌≡◌, ℕ, ◌<◌, ℤ, pos, neg_ℤ, ◌+ℤ◌, ◌≤ℤ◌, ◌<ℤ◌, List, length, map, slice_get, Option, Some, None}
use Rattle.tn_counts.specs.Counts.{AreCounts, CountFirm, IsEfficientByCounts, IsEquilibriumByCounts, count_surplus}
use Rattle.tn_counts.specs.declared.trade.UnitTrade.{UnitTrade}
use Rattle.tn_read_units.specs.Firms.{UnitDocument}
use Rattle.tn_read_units.specs.Worths.{written_firms}
use Rattle.tn_said.specs.declared.said.Said.{Said}
use Rattle.tn_said.specs.declared.said.Said.TheVariants.{CycleByCounts, Impossible, SupportedByCounts}
use Rattle.tn_said.specs.declared.units.UnitStep.{UnitStep}
use Rattle.tn_tree.specs.Lists.{count_in, price_in}
use Rattle.tn_tree.specs.Steps.{AreOnce, units_by}
use Rattle.tn_unit_answers.specs.Solve.{unit_ends}
use Rattle.tn_unit_answers.specs.Steps.{AreStepsOf, market_steps}

-- no prices make the counts an equilibrium, over any denominator
abbrev pub HaveNoPrices : List CountFirm → List UnitTrade → (ℕ → ℕ) → Type 0
HaveNoPrices firms trades counts = (scale : ℤ) (prices : ℕ → ℤ) → pos 1 ≤ℤ scale
    → IsEquilibriumByCounts firms trades scale counts prices → ⊥

-- with a whole price for each trade the counts are an equilibrium, and so none have more surplus
pub record HavePrices (firms : List CountFirm) (trades : List UnitTrade) (counts : ℕ → ℕ) (prices : List ℤ) : Type 0 where
  pub priced : length prices ≡ length trades
  pub equilibrium : IsEquilibriumByCounts firms trades (pos 1) counts (price_in prices)
  pub efficient : IsEfficientByCounts firms trades counts

-- the counts are impossible for firm f, and possible for each earlier one
pub record IsFirstWithout (firms : List CountFirm) (counts : ℕ → ℕ) (f : ℕ) : Type 0 where
  pub firm : CountFirm
  pub is : slice_get firms f ≡ Some firm
  pub none : firm.worth counts ≡ None
  pub earlier : (g : ℕ) (other : CountFirm) → g < f → slice_get firms g ≡ Some other
      → (worth : ℤ) × (other.worth counts ≡ Some worth)

-- the counts are possible, and steps of trades, each of them once, lead to others within the units that have more surplus by
-- what the steps cost, turned round
pub record StepsGain (firms : List CountFirm) (trades : List UnitTrade) (counts : ℕ → ℕ) (steps : List (Option UnitStep))
    (cost : ℤ) : Type 0 where
  pub negative : cost <ℤ pos 0
  pub known : AreStepsOf trades steps
  pub once : AreOnce (market_steps steps)
  pub after : ℕ → ℕ
  pub within : AreCounts trades after
  pub stepped : (t : ℕ) → t < length trades → pos (after t) ≡ pos (counts t) +ℤ units_by (market_steps steps) t
  pub surplus : ℤ
  pub is : count_surplus firms counts ≡ Some surplus
  pub gained : count_surplus firms after ≡ Some (surplus +ℤ neg_ℤ cost)

-- supporting prices, beside the counts and the ends of the trades; or the first firm for which the counts are impossible, or
-- a negative cycle of steps, and then there are no such prices
abbrev pub SupportsCounts : UnitDocument → List ℕ → Said → Type 0
SupportsCounts doc counts (Impossible f) = IsFirstWithout (written_firms doc) (count_in counts) f
    × HaveNoPrices (written_firms doc) doc.head.trades (count_in counts)
SupportsCounts doc counts (SupportedByCounts listed prices ends) =
    HavePrices (written_firms doc) doc.head.trades (count_in counts) prices × (listed ≡ counts)
    × (ends ≡ map unit_ends doc.head.trades)
SupportsCounts doc counts (CycleByCounts nodes cost) =
    StepsGain (written_firms doc) doc.head.trades (count_in counts) nodes cost
    × HaveNoPrices (written_firms doc) doc.head.trades (count_in counts)
SupportsCounts doc counts said = ⊥
